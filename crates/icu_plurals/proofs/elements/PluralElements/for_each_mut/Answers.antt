use Rattle.std.proofs.Common.{refl}
use Rattle.std.specs.Fn.{CalledAtMut}
use Rattle.icu_plurals.specs.ElementCalls.{Changes}
use Rattle.icu_plurals.proofs.Stops.{in_steps}
use Rattle.icu_plurals.proofs.elements.PluralElements.for_each_mut.Goals as goal

pub returns : goal.returns
returns g c = rw (← c.self.view_is) (
  c.change_place.new.f,
  in_steps (Changes (CalledAtMut g.F.FnMut)) _ _ _ _ _ _ _ _ _ _ _ _ _ _ _ _ _ _ _ _ _
      (_, refl, (c.f.result, record { shown = _; shows = refl; left = _; called = c.f.ensures; leaves = refl }))
      c.change_three.ensures.called c.change_three-2.ensures.called c.change_place.ensures.called,
)
