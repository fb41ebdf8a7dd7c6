use Rattle.std.proofs.lemmas.Result.{err_from_is_err_and}
use Rattle.plural_exports.specs.Inner.Conversions.{decimal_fault}
use Rattle.plural_exports.proofs.Numbers.{number_refused}
use Rattle.plural_exports.proofs.Steps.{handed_on}
use Rattle.plural_exports.proofs.given.number_of.Goals as goal

pub returns-in_err-from_str : goal.returns-in_err-from_str
returns-in_err-from_str c =
    number_refused c.args.text.now c.in_err-from_str.field-0.0 c.from_residual.result
    (handed_on decimal_fault _ _ (err_from_is_err_and c.from_residual.result c.from_residual.ensures.1))
    c.in_err-from_str.ensures.syntax c.in_err-from_str.ensures.limit c.in_err-from_str.ensures.inline
