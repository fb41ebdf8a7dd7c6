use Rattle.gettext_plural.proofs.Told.{no_fault}
use Rattle.gettext_plural.proofs.laws.no_fault_in_forms.Goals as goal

pub returns : goal.returns
returns c = no_fault
