use Rattle.message_pattern.proofs.PrintsBack.{unstyled_prints}
use Rattle.message_pattern.proofs.laws.unstyled_prints_back.Goals as goal

pub returns : goal.returns
returns c = unstyled_prints
