use Rattle.std.proofs.lemmas.Result.{err_from_is_err_and}
use Rattle.plural_exports.proofs.RangeTables.{given_table, refused_locale, refused_ranges}
use Rattle.plural_exports.proofs.Steps.{passed_on}
use Rattle.plural_exports.proofs.ranges.ranges_of_document.Goals as goal

pub returns-in_err-locale : goal.returns-in_err-locale
returns-in_err-locale c =
    refused_locale c.args.json.now c.args.locale.now c.in_err-locale.field-0.0 c.from_residual.result
    (passed_on _ _ (err_from_is_err_and c.from_residual.result c.from_residual.ensures.1))
    c.in_err-locale.ensures

pub returns-in_err-ranges : goal.returns-in_err-ranges
returns-in_err-ranges c =
    let r = c.from_residual-in_err-ranges.result in
    refused_ranges c.args.json.now c.args.locale.now c.in_ok-locale.locale.now c.in_err-ranges.field-0.0 r
    (passed_on _ _ (err_from_is_err_and r c.from_residual-in_err-ranges.ensures.1))
    c.in_ok-locale.ensures c.in_err-ranges.ensures

pub returns : goal.returns
returns c =
    given_table c.args.json.now c.args.locale.now c.in_ok-locale.locale.now c.in_ok-ranges.ranges c.table_of.result
    c.in_ok-locale.ensures c.in_ok-ranges.ensures c.table_of.ensures
