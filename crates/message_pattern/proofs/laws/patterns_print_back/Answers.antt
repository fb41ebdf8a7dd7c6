use Rattle.message_pattern.proofs.PrintsBack.{prints_back}
use Rattle.message_pattern.proofs.laws.patterns_print_back.Goals as goal

pub returns : goal.returns
returns c = λ formats source parts h. prints_back source parts h
