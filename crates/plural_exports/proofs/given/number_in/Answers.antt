use Rattle.std.proofs.Common.{Ok, Err}
use Rattle.std.proofs.lemmas.Result.{err_from_is_err_and}
use Rattle.plural_exports.proofs.Steps.{passed_on}
use Rattle.plural_exports.proofs.given.number_in.Goals as goal

pub returns-in_err-text : goal.returns-in_err-text
returns-in_err-text c = (
  Err c.in_err-text.field-0.0,
  c.in_err-text.ensures,
  passed_on _ _ (err_from_is_err_and c.from_residual.result c.from_residual.ensures.1),
)

pub returns : goal.returns
returns c = (Ok c.in_ok-text.text.now, c.in_ok-text.ensures, c.number_of.ensures)
