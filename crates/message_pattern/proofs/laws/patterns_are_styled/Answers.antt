use Rattle.message_pattern.proofs.WithFormats.{styled_too}
use Rattle.message_pattern.proofs.laws.patterns_are_styled.Goals as goal

pub returns : goal.returns
returns c = λ text parts h. styled_too h
