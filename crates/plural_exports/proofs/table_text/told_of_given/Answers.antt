use Rattle.std.proofs.Common.{Ok, Err, refl}
use Rattle.plural_exports.proofs.table_text.told_of_given.Goals as goal

pub returns-in-Some : goal.returns-in-Some
returns-in-Some c = (Ok _, (c.in-Some.ensures.found.0 refl, c.in-Some.ensures.same), c.told_of_text.ensures)

pub returns-in-None : goal.returns-in-None
returns-in-None c = (Err _, (refl, λ size. (let some = c.in-None.ensures.found.1 size in cc)), refl)
