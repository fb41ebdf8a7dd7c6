use Rattle.message_pattern.proofs.Answered.{one_list, no_fault, one_fault}
use Rattle.message_pattern.proofs.laws.one_reading.Goals as goal

pub returns : goal.returns
returns c = λ formats text. (one_list text, no_fault text, one_fault text)
