use Rattle.std.proofs.Common.{refl}
use Rattle.std.proofs.lemmas.Result.{err_from_is_err_and, IfOk-at_ok, IfErr-at_err}
use Rattle.std.specs.Fn.{CalledAtMut}
use Rattle.icu_plurals.specs.ElementCalls.{ChangesTo}
use Rattle.icu_plurals.proofs.ReferenceCalls.{lent_ok, lent_err}
use Rattle.icu_plurals.proofs.Stops.{in_steps, stops_here_changing, stops_later_changing, stops_after_three_changing, stops_before_changing}
use Rattle.icu_plurals.proofs.elements.PluralElements.try_for_each_mut.Goals as goal

pub returns-in_err-f-clause-err : goal.returns-in_err-f-clause-err
returns-in_err-f-clause-err g c =
    let p = err_from_is_err_and c.from_residual.result c.from_residual.ensures.1 in
    rw (p.1, p.2, ← c.self.view_is)
    (c.f.new.self, stops_here_changing (IfErr-at_err _ c.in_err-f.was (lent_err _ _ _ _ _ _ c.f.ensures)))

pub returns-in_err-try_change_three-clause-err : goal.returns-in_err-try_change_three-clause-err
returns-in_err-try_change_three-clause-err g c =
    let p = err_from_is_err_and c.from_residual-in_err-try_change_three.result c.from_residual-in_err-try_change_three.ensures.1 in
    rw (p.1, p.2, ← c.self.view_is) (
      c.try_change_three.new.f,
      stops_later_changing (IfOk-at_ok _ c.in_ok-f.was (lent_ok _ _ _ _ _ _ c.f.ensures))
          (stops_before_changing _ {last = c.try_change_three.new.f} c.in_err-try_change_three.ensures.err),
    )

pub returns-in_err-try_change_three-2-clause-err : goal.returns-in_err-try_change_three-2-clause-err
returns-in_err-try_change_three-2-clause-err g c =
    let p = err_from_is_err_and c.from_residual-in_err-try_change_three-2.result c.from_residual-in_err-try_change_three-2.ensures.1 in
    rw (p.1, p.2, ← c.self.view_is) (
      c.try_change_three-2.new.f,
      stops_later_changing (IfOk-at_ok _ c.in_ok-f.was (lent_ok _ _ _ _ _ _ c.f.ensures))
          (stops_after_three_changing c.in_ok-try_change_three.ensures.ok
          (stops_before_changing _ {last = c.try_change_three-2.new.f} c.in_err-try_change_three-2.ensures.err)),
    )

pub returns-in_err-try_change_place-clause-err : goal.returns-in_err-try_change_place-clause-err
returns-in_err-try_change_place-clause-err g c =
    let p = err_from_is_err_and c.from_residual-in_err-try_change_place.result c.from_residual-in_err-try_change_place.ensures.1 in
    rw (p.1, p.2, ← c.self.view_is) (
      c.try_change_place.new.f,
      stops_later_changing (IfOk-at_ok _ c.in_ok-f.was (lent_ok _ _ _ _ _ _ c.f.ensures))
          (stops_after_three_changing c.in_ok-try_change_three.ensures.ok
          (stops_after_three_changing c.in_ok-try_change_three-2.ensures.ok
          (stops_here_changing c.in_err-try_change_place.ensures.err))),
    )

pub returns-clause-ok : goal.returns-clause-ok
returns-clause-ok g c = rw (← c.self.view_is) (
  c.try_change_place.new.f,
  in_steps (ChangesTo (CalledAtMut g.F.FnMut)) _ _ _ _ _ _ _ _ _ _ _ _ _ _ _ _ _ _ _ _ _
      (IfOk-at_ok _ c.in_ok-f.was (lent_ok _ _ _ _ _ _ c.f.ensures)) c.in_ok-try_change_three.ensures.ok
      c.in_ok-try_change_three-2.ensures.ok c.in_ok-try_change_place.ensures.ok,
)
