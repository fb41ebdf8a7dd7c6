use Rattle.std.proofs.lemmas.Result.{err_from_is_err_and}
use Rattle.plural_exports.proofs.Documents.{packed_maps, refused_document, refused_locale}
use Rattle.plural_exports.proofs.LocaleMaps.{rules_found, rules_refused}
use Rattle.plural_exports.proofs.Steps.{passed_on}
use Rattle.plural_exports.proofs.rules.rules_of_document.Goals as goal

pub returns-in_err-locale : goal.returns-in_err-locale
returns-in_err-locale c =
    refused_locale c.args.json.now c.args.locale.now c.args.rule_type c.in_ok-rule_type.rule_type
    c.in_err-locale.field-0.0 c.from_residual-in_err-locale.result
    (passed_on _ _ (err_from_is_err_and c.from_residual-in_err-locale.result c.from_residual-in_err-locale.ensures.1))
    c.in_ok-rule_type.ensures c.in_err-locale.ensures

pub returns-in-Ok : goal.returns-in-Ok
returns-in-Ok c =
    let locale = c.in_ok-locale.locale.now in
    let type = c.in_ok-rule_type.rule_type in
    packed_maps c.args.json.now c.args.locale.now c.args.rule_type type locale c.in-Ok.maps c.packed_for.result
    c.in_ok-rule_type.ensures c.in_ok-locale.ensures (rules_found c.args.json.now locale type c.in-Ok.maps c.in-Ok.ensures)
    c.packed_for.ensures

pub returns-in-Err : goal.returns-in-Err
returns-in-Err c =
    let locale = c.in_ok-locale.locale.now in
    refused_document c.args.json.now c.args.locale.now c.args.rule_type c.in_ok-rule_type.rule_type locale c.in-Err.fault
    c.in_ok-rule_type.ensures c.in_ok-locale.ensures
    (rules_refused c.args.json.now locale c.in_ok-rule_type.rule_type c.in-Err.fault c.in-Err.ensures)
