use Rattle.std.proofs.lemmas.Result.{err_from_is_err_and}
use Rattle.serde_json.specs.View.{view}
use Rattle.plural_base.proofs.reading.Checked.{cardinal_of_locale_refused, ordinal_of_locale_refused, locale_refused}
use Rattle.plural_base.proofs.json.locale.read_locale.Goals as goal

pub returns-in_err-read_row-clause-answers : goal.returns-in_err-read_row-clause-answers
returns-in_err-read_row-clause-answers c =
    let p = err_from_is_err_and c.from_residual.result c.from_residual.ensures.1 in
    rw (p.1, p.2)
    (cardinal_of_locale_refused c.args.locale.now (view c.args.value.now) _ c.in_err-read_row.field-0.0 c.if-not-is_object.ensures
    c.get.ensures c.in_err-read_row.ensures.answers)

pub returns-in_err-read_row-2-clause-answers : goal.returns-in_err-read_row-2-clause-answers
returns-in_err-read_row-2-clause-answers c =
    let p = err_from_is_err_and c.from_residual-in_err-read_row-2.result c.from_residual-in_err-read_row-2.ensures.1 in
    rw (p.1, p.2)
    (ordinal_of_locale_refused c.args.locale.now (view c.args.value.now) _ _ _ c.in_err-read_row-2.field-0.0
    c.if-not-is_object.ensures c.get.ensures c.get-2.ensures c.in_ok-read_row.ensures.answers c.in_err-read_row-2.ensures.answers)

pub returns-in_err-read_row-3-clause-answers : goal.returns-in_err-read_row-3-clause-answers
returns-in_err-read_row-3-clause-answers c =
    let p = err_from_is_err_and c.from_residual-in_err-read_row-3.result c.from_residual-in_err-read_row-3.ensures.1 in
    rw (p.1, p.2)
    (locale_refused c.args.locale.now (view c.args.value.now) _ _ _ _ _ c.in_err-read_row-3.field-0.0 c.if-not-is_object.ensures
    c.get.ensures c.get-2.ensures c.get-3.ensures c.in_ok-read_row.ensures.answers c.in_ok-read_row-2.ensures.answers
    c.in_err-read_row-3.ensures.answers)
