use Rattle.std.proofs.Common.{Err, ap, ◌∙◌}
use Rattle.std.proofs.lemmas.Result.{err_from_is_err_and}
use Rattle.example_callers.proofs.NumberFaults.{handed_on}
use Rattle.example_callers.proofs.relative_time.RelativeTime.format.Goals as goal

pub returns-in_err-number-clause-syntax : goal.returns-in_err-number-clause-syntax
returns-in_err-number-clause-syntax c =
    let p = err_from_is_err_and c.from_residual.result c.from_residual.ensures.1 in
    handed_on c.from_str.result c.from_residual.result c.in_err-number.field-0.0 c.in_err-number.was (p.1 ∙ ap Err p.2)
    c.from_str.ensures.syntax

pub returns-clause-kept : goal.returns-clause-kept
returns-clause-kept c =
    let said = c.said_by in (
      c.in_ok-number.number,
      said.result.0.now,
      said.result.1.now,
      c.in_ok-number.ensures.number.0,
      said.ensures,
      c.in_ok-format_number.ensures.kept,
    )

pub returns-clause-exact : goal.returns-clause-exact
returns-clause-exact c =
    let said = c.said_by in (
      c.in_ok-number.number,
      said.result.0.now,
      said.result.1.now,
      c.in_ok-number.ensures.number.0,
      said.ensures,
      c.in_ok-format_number.ensures.exact,
    )
