use Rattle.plural_checker.proofs.reading.read_number.Goals as goal

pub returns-in-Err-Syntax : goal.returns-in-Err-Syntax
returns-in-Err-Syntax c = c.in-Err-Syntax.ensures.syntax.0 (cc)
