use Rattle.std.proofs.lemmas.Result.{err_from_is_err_and}
use Rattle.icu_plurals.proofs.ReferenceCalls.{visits_kept_shown, stops_shown}
use Rattle.icu_plurals.proofs.elements.PluralElements.try_for_each.Goals as goal

pub returns-in_err-try_map-clause-err : goal.returns-in_err-try_map-clause-err
returns-in_err-try_map-clause-err g c =
    let p = err_from_is_err_and c.from_residual.result c.from_residual.ensures.1 in
    rw (p.1, p.2, ← c.as_ref.ensures) (c.in_err-try_map.ensures.err.0, stops_shown g.F.FnMut _ _ _ _ c.in_err-try_map.ensures.err.1)

pub returns-clause-ok : goal.returns-clause-ok
returns-clause-ok g c = rw (← c.as_ref.ensures) (
  c.in_ok-try_map.ensures.ok.0,
  visits_kept_shown g.F.FnMut c.args.f c.as_ref.result c.in_ok-try_map.field-0 c.in_ok-try_map.ensures.ok.0 c.in_ok-try_map.ensures.ok.1,
)
