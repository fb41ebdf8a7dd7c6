use Rattle.std.proofs.Common.{refl}
use Rattle.icu_plurals.proofs.Stops.{in_steps}
use Rattle.icu_plurals.proofs.elements.PluralElements.map.Goals as goal

pub returns : goal.returns
returns g c = rw (← c.self.view_is) (
  c.map_place-explicit_one.new.f,
  in_steps (goal.F-step g) _ _ _ _ _ _ _ _ _ _ _ _ _ _ _ _ _ _ _ _ _
      (_, refl, c.f-other.ensures) c.map_three-zero.ensures.called c.map_three-few.ensures.called c.map_place-explicit_one.ensures.called,
)
