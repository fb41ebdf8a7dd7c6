use Rattle.std.proofs.Common.{arith}
use Rattle.gettext_plural.proofs.Told.{read_exactly, stopped_exactly}
use Rattle.gettext_plural.proofs.forms.PluralForms.parse.Goals as goal

pub returns-in-Ok : goal.returns-in-Ok
returns-in-Ok c = read_exactly _ _ (omega arith) c.in-Ok.ensures

pub returns-in-Err : goal.returns-in-Err
returns-in-Err c = rw c.error_at.ensures (stopped_exactly _ _ (omega arith) c.in-Err.ensures)
