use Rattle.message_format.proofs.numbers.ComparedChooser.chooses.Goals as goal

pub returns-in-Exactly : goal.returns-in-Exactly
returns-in-Exactly c = rw c.in-Exactly.is c.equals_written.ensures
