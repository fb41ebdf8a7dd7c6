use Rattle.gettext_plural.proofs.Told.{one_thing}
use Rattle.gettext_plural.proofs.laws.texts_say_one_thing.Goals as goal

pub returns : goal.returns
returns c = one_thing
