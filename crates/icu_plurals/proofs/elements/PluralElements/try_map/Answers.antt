use Rattle.std.proofs.Common.{Ok, refl}
use Rattle.std.proofs.lemmas.Result.{err_from_is_err_and}
use Rattle.icu_plurals.proofs.Stops.{in_steps, stops_here, stops_later, stops_after_three, stops_before}
use Rattle.icu_plurals.proofs.elements.PluralElements.try_map.Goals as goal

pub returns-in_err-other-clause-err : goal.returns-in_err-other-clause-err
returns-in_err-other-clause-err g c =
    let p = err_from_is_err_and c.from_residual.result c.from_residual.ensures.1 in
    rw (p.1, p.2, ← c.self.view_is) (c.f.new.self, stops_here (_, refl, rw (← c.in_err-other.was) c.f.ensures))

pub returns-in_err-zero-clause-err : goal.returns-in_err-zero-clause-err
returns-in_err-zero-clause-err g c =
    let p = err_from_is_err_and c.from_residual-in_err-zero.result c.from_residual-in_err-zero.ensures.1 in
    rw (p.1, p.2, ← c.self.view_is) (
      c.try_map_three.new.f,
      stops_later _ (c.in_ok-other.other, refl, rw (← c.in_ok-other.was) c.f.ensures)
          (stops_before _ {last = c.try_map_three.new.f} c.in_err-zero.ensures.err),
    )

pub returns-in_err-few-clause-err : goal.returns-in_err-few-clause-err
returns-in_err-few-clause-err g c =
    let p = err_from_is_err_and c.from_residual-in_err-few.result c.from_residual-in_err-few.ensures.1 in
    rw (p.1, p.2, ← c.self.view_is) (
      c.try_map_three-2.new.f,
      stops_later _ (c.in_ok-other.other, refl, rw (← c.in_ok-other.was) c.f.ensures)
          (stops_after_three _ _ _ c.in_ok-zero.ensures.ok
          (stops_before _ {last = c.try_map_three-2.new.f} c.in_err-few.ensures.err)),
    )

pub returns-in_err-explicit_one-clause-err : goal.returns-in_err-explicit_one-clause-err
returns-in_err-explicit_one-clause-err g c =
    let p = err_from_is_err_and c.from_residual-in_err-explicit_one.result c.from_residual-in_err-explicit_one.ensures.1 in
    rw (p.1, p.2, ← c.self.view_is) (
      c.try_map_place.new.f,
      stops_later _ (c.in_ok-other.other, refl, rw (← c.in_ok-other.was) c.f.ensures)
          (stops_after_three _ _ _ c.in_ok-zero.ensures.ok
          (stops_after_three _ _ _ c.in_ok-few.ensures.ok
          (stops_here c.in_err-explicit_one.ensures.err))),
    )

pub returns-clause-ok : goal.returns-clause-ok
returns-clause-ok g c = rw (← c.self.view_is) (
  c.try_map_place.new.f,
  in_steps (λ p x y q. goal.F-step g p x (Ok y) q) _ _ _ _ _ _ _ _ _ _ _ _ _ _ _ _ _ _ _ _ _
      (c.in_ok-other.other, refl, rw (← c.in_ok-other.was) c.f.ensures) c.in_ok-zero.ensures.ok c.in_ok-few.ensures.ok
      c.in_ok-explicit_one.ensures.ok,
)
