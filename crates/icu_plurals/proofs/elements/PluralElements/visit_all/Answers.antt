use Rattle.std.proofs.Common.{refl}
use Rattle.std.specs.Fn.{CalledAt}
use Rattle.icu_plurals.proofs.Stops.{visits_in_steps}
use Rattle.icu_plurals.proofs.elements.PluralElements.visit_all.Goals as goal

pub returns : goal.returns
returns g c = rw (← c.self.view_is) (visits_in_steps (CalledAt g.F.FnMut) _ _ _ _ _ _ _ _ _ _ _ _ _ _
    (record { shown = _; shows = refl; called = c.f.ensures })
    c.visit_three.ensures.called c.visit_three-2.ensures.called c.visit_place.ensures.called)
