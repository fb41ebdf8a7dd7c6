use Rattle.std.proofs.Common.{refl}
use Rattle.std.proofs.lemmas.Result.{err_from_is_err_and}
use Rattle.icu_plurals.proofs.Stops.{stops_here, stops_later}
use Rattle.icu_plurals.proofs.elements.map.try_map_three.Goals as goal

pub returns-in_err-try_map_place-clause-err : goal.returns-in_err-try_map_place-clause-err
returns-in_err-try_map_place-clause-err g c =
    let p = err_from_is_err_and c.from_residual.result c.from_residual.ensures.1 in
    rw (p.1, p.2) (stops_here c.in_err-try_map_place.ensures.err)

pub returns-in_err-try_map_place-2-clause-err : goal.returns-in_err-try_map_place-2-clause-err
returns-in_err-try_map_place-2-clause-err g c =
    let p = err_from_is_err_and c.from_residual-in_err-try_map_place-2.result c.from_residual-in_err-try_map_place-2.ensures.1 in
    rw (p.1, p.2) (stops_later _ c.in_ok-try_map_place.ensures.ok (stops_here c.in_err-try_map_place-2.ensures.err))

pub returns-in_err-try_map_place-3-clause-err : goal.returns-in_err-try_map_place-3-clause-err
returns-in_err-try_map_place-3-clause-err g c =
    let p = err_from_is_err_and c.from_residual-in_err-try_map_place-3.result c.from_residual-in_err-try_map_place-3.ensures.1 in
    rw (p.1, p.2) (stops_later _ c.in_ok-try_map_place.ensures.ok
    (stops_later _ c.in_ok-try_map_place-2.ensures.ok (stops_here c.in_err-try_map_place-3.ensures.err)))
