use Rattle.std.proofs.Common.{Ok, Err, refl}
use Rattle.std.proofs.lemmas.Result.{err_from_is_err_and}
use Rattle.message_format.specs.FormatArguments.{named_values_view}
use Rattle.message_format.specs.FormatMeaning.{Said}
use Rattle.plural_exports.specs.Inner.Conversions.{format_fault}
use Rattle.plural_exports.proofs.SaidPatterns.{said_refused}
use Rattle.plural_exports.proofs.Steps.{handed_on, passed_on}
use Rattle.plural_exports.proofs.patterns.said.Goals as goal

pub returns-in_err-pattern : goal.returns-in_err-pattern
returns-in_err-pattern c =
    let e = c.in_err-pattern.field-0.0 in
    rw (passed_on c.from_residual.result e (err_from_is_err_and c.from_residual.result c.from_residual.ensures.1))
    (Err e, c.in_err-pattern.ensures, refl)

pub returns-in_err-arguments : goal.returns-in_err-arguments
returns-in_err-arguments c =
    let e = c.in_err-arguments.field-0.0 in
    let residual = c.from_residual-in_err-arguments in
    rw (passed_on residual.result e (err_from_is_err_and residual.result residual.ensures.1))
    (Ok c.in_ok-pattern.pattern, c.in_ok-pattern.ensures, (Err e, c.in_err-arguments.ensures, refl))

pub returns-in_err-format : goal.returns-in_err-format
returns-in_err-format c =
    let e = c.in_err-format.field-0.0 in
    let residual = c.from_residual-in_err-format in
    let arguments = named_values_view c.in_ok-arguments.arguments.items in
    rw (handed_on format_fault residual.result e (err_from_is_err_and residual.result residual.ensures.1)) (
      Ok c.in_ok-pattern.pattern,
      c.in_ok-pattern.ensures,
      (Ok arguments, c.in_ok-arguments.ensures, said_refused _ _ arguments e (rw c.as_slice.ensures.value at c.in_err-format.ensures)),
    )

pub returns : goal.returns
returns c = (
  Ok c.in_ok-pattern.pattern,
  c.in_ok-pattern.ensures,
  (
    Ok (named_values_view c.in_ok-arguments.arguments.items),
    c.in_ok-arguments.ensures,
    (rw c.as_slice.ensures.value at c.in_ok-format.ensures).only (Said c.in_ok-format.field-0.items) refl,
  ),
)
