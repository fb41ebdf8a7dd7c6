use Rattle.std.proofs.Common.{Ok, Err}
use Rattle.std.proofs.lemmas.Result.{err_from_is_err_and}
use Rattle.serde_json.specs.View.{view}
use Rattle.plural_exports.proofs.Steps.{passed_on}
use Rattle.plural_exports.proofs.elements.elements_of.Goals as goal

pub returns-in_err-value : goal.returns-in_err-value
returns-in_err-value c = (
  Err c.in_err-value.field-0.0,
  c.in_err-value.ensures,
  passed_on _ _ (err_from_is_err_and c.from_residual.result c.from_residual.ensures.1),
)

pub returns : goal.returns
returns c = (Ok (view c.in_ok-value.value), c.in_ok-value.ensures, c.packed_elements.ensures)
