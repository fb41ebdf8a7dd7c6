use Rattle.std.proofs.Common.{Ok, Err, refl}
use Rattle.std.proofs.lemmas.Result.{err_from_is_err_and}
use Rattle.message_format.specs.FormatArguments.{value_view}
use Rattle.plural_exports.proofs.Steps.{passed_on}
use Rattle.plural_exports.proofs.arguments.argument_in.Goals as goal

pub returns-in_err-name : goal.returns-in_err-name
returns-in_err-name c =
    let e = c.in_err-name.field-0.0 in
    rw (passed_on c.from_residual.result e (err_from_is_err_and c.from_residual.result c.from_residual.ensures.1))
    (Err e, c.in_err-name.ensures, refl)

pub returns-in_err-text : goal.returns-in_err-text
returns-in_err-text c =
    let e = c.in_err-text.field-0.0 in
    let residual = c.from_residual-in_err-text in
    rw (passed_on residual.result e (err_from_is_err_and residual.result residual.ensures.1))
    (Ok c.in_ok-name.name.now, c.in_ok-name.ensures, (Err e, c.in_err-text.ensures, refl))

pub returns-in_err-value : goal.returns-in_err-value
returns-in_err-value c =
    let e = c.in_err-value.field-0.0 in
    let residual = c.from_residual-in_err-value in
    rw (passed_on residual.result e (err_from_is_err_and residual.result residual.ensures.1)) (
      Ok c.in_ok-name.name.now,
      c.in_ok-name.ensures,
      (Ok c.in_ok-text.text.now, c.in_ok-text.ensures, (Err e, c.in_err-value.ensures, refl)),
    )

pub returns : goal.returns
returns c = (
  Ok c.in_ok-name.name.now,
  c.in_ok-name.ensures,
  (Ok c.in_ok-text.text.now, c.in_ok-text.ensures, (Ok (value_view c.in_ok-value.value), c.in_ok-value.ensures, refl)),
)
