use Rattle.gettext_plural.proofs.Told.{one_fault}
use Rattle.gettext_plural.proofs.laws.one_fault.Goals as goal

pub returns : goal.returns
returns c = one_fault
