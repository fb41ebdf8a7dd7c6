use Rattle.std.proofs.lemmas.Result.{err_from_is_err_and}
use Rattle.serde_json.specs.View.{view}
use Rattle.plural_exports.specs.Inner.Conversions.{json_fault}
use Rattle.plural_exports.proofs.Documents.{elements_refused}
use Rattle.plural_exports.proofs.Steps.{handed_on}
use Rattle.plural_exports.proofs.elements.packed_elements.Goals as goal

pub returns-in_err-from_json : goal.returns-in_err-from_json
returns-in_err-from_json c =
    let refused = c.in_err-from_json.ensures in
    elements_refused (view c.args.value.now) c.in_err-from_json.field-0.0 c.from_residual.result
    (handed_on json_fault _ _ (err_from_is_err_and c.from_residual.result c.from_residual.ensures.1))
    refused.answers refused.packable
