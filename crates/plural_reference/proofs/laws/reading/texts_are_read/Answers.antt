use Rattle.plural_reference.proofs.rules.RuleTexts.{texts_are_read}
use Rattle.plural_reference.proofs.laws.reading.texts_are_read.Goals as goal

pub returns : goal.returns
returns c = texts_are_read
