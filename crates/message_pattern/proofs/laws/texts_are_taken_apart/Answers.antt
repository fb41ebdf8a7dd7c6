use Rattle.message_pattern.proofs.WithFormats.{name_apart, format_apart}
use Rattle.message_pattern.proofs.laws.texts_are_taken_apart.Goals as goal

pub returns : goal.returns
returns c = (name_apart, format_apart)
