use Rattle.std.proofs.Common.{refl}
use Rattle.icu_plurals.proofs.elements.for_each.visit_place.Goals as goal

pub returns-in-Some-clause-called : goal.returns-in-Some-clause-called
returns-in-Some-clause-called g c =
    rw c.in-Some.is (c.f.result, record { shown = _; shows = refl; called = c.f.ensures })
