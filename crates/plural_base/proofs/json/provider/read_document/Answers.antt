use Rattle.std.proofs.lemmas.Result.{err_from_is_err_and}
use Rattle.serde_json.specs.View.{view}
use Rattle.plural_base.proofs.reading.DocumentRefusals.{cardinal_refused, ordinal_refused, ranges_refused}
use Rattle.plural_base.proofs.json.provider.read_document.Goals as goal

pub returns-in_err-read_map-clause-answers : goal.returns-in_err-read_map-clause-answers
returns-in_err-read_map-clause-answers c =
    let p = err_from_is_err_and c.from_residual.result c.from_residual.ensures.1 in
    rw (p.1, p.2)
    (cardinal_refused (view c.args.value.now) _ c.in_err-read_map.field-0.0 c.if-not-is_object.ensures c.get.ensures
    c.in_err-read_map.ensures.answers)

pub returns-in_err-read_map-2-clause-answers : goal.returns-in_err-read_map-2-clause-answers
returns-in_err-read_map-2-clause-answers c =
    let p = err_from_is_err_and c.from_residual-in_err-read_map-2.result c.from_residual-in_err-read_map-2.ensures.1 in
    rw (p.1, p.2)
    (ordinal_refused (view c.args.value.now) _ _ _ c.in_err-read_map-2.field-0.0 c.if-not-is_object.ensures c.get.ensures
    c.get-2.ensures c.in_ok-read_map.ensures.answers c.in_err-read_map-2.ensures.answers)

pub returns-in_err-read_map-3-clause-answers : goal.returns-in_err-read_map-3-clause-answers
returns-in_err-read_map-3-clause-answers c =
    let p = err_from_is_err_and c.from_residual-in_err-read_map-3.result c.from_residual-in_err-read_map-3.ensures.1 in
    rw (p.1, p.2)
    (ranges_refused (view c.args.value.now) _ _ _ _ _ c.in_err-read_map-3.field-0.0 c.if-not-is_object.ensures c.get.ensures
    c.get-2.ensures c.get-3.ensures c.in_ok-read_map.ensures.answers c.in_ok-read_map-2.ensures.answers
    c.in_err-read_map-3.ensures.answers)
