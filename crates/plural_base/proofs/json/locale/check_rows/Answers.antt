use Rattle.std.proofs.Common.{[], Ok, refl}
use Rattle.plural_base.proofs.json.locale.check_rows.Goals as goal

pub returns-clause-answers : goal.returns-clause-answers
returns-clause-answers g c = c.loop-value.invariant (Ok tt) (rw c.in-None.ensures.steps.0 ([], refl))
