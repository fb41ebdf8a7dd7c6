use Rattle.gettext_plural.proofs.Told.{says_or_fails}
use Rattle.gettext_plural.proofs.laws.every_text_is_told.Goals as goal

pub returns : goal.returns
returns c = says_or_fails
