use Rattle.std.proofs.Common.{◌≡◌, Err, ◌∙◌, ap}
use Rattle.std.proofs.lemmas.Result.{err_from_is_err_and}
use Rattle.fixed_decimal.specs.declared.error.DecimalError.TheVariants.{Syntax, Limit}
use Rattle.fixed_decimal.proofs.Signs.{none_signed, none_unsigned, over_signed, over_unsigned}
use Rattle.fixed_decimal.proofs.Refusals.{carried, no_cause, accepted}
use Rattle.fixed_decimal.proofs.decimal.parts_within.Goals as goal
use Rattle.fixed_decimal.proofs.decimal.parts_within.Goals.{After-from_residual}

-- the error of the digits is returned
same_error : (c : After-from_residual) → c.from_residual.result ≡ Err c.in_err-point.field-0.0
same_error c = let p = err_from_is_err_and c.from_residual.result c.from_residual.ensures.1 in p.1 ∙ ap Err p.2

pub returns-in_err-point-clause-syntax : goal.returns-in_err-point-clause-syntax
returns-in_err-point-clause-syntax c =
    let text = c.args.text.now in
    let s = c.split_sign-sign in
    carried c.point_within.result c.from_residual.result c.in_err-point.field-0.0 Syntax c.in_err-point.was
    (same_error c) c.point_within.ensures.syntax
    (none_signed text s.result.0 s.result.1.now s.ensures.form s.ensures.only)
    (none_unsigned text s.result.0 s.result.1.now s.ensures.form s.ensures.only)

pub returns-in_err-point-clause-limit : goal.returns-in_err-point-clause-limit
returns-in_err-point-clause-limit c =
    let text = c.args.text.now in
    let s = c.split_sign-sign in
    carried c.point_within.result c.from_residual.result c.in_err-point.field-0.0 Limit c.in_err-point.was
    (same_error c) c.point_within.ensures.limit
    (over_signed text s.result.0 s.result.1.now s.ensures.form s.ensures.only)
    (over_unsigned text s.result.0 s.result.1.now s.ensures.form s.ensures.only)

pub returns-clause-syntax : goal.returns-clause-syntax
returns-clause-syntax c =
    let text = c.args.text.now in
    let s = c.split_sign-sign in
    accepted _ Syntax (λ none.
    no_cause c.point_within.result c.in_ok-point.point Syntax c.in_ok-point.was c.point_within.ensures.syntax
    (none_unsigned text s.result.0 s.result.1.now s.ensures.form s.ensures.only none))

pub returns-clause-limit : goal.returns-clause-limit
returns-clause-limit c =
    let text = c.args.text.now in
    let s = c.split_sign-sign in
    accepted _ Limit (λ over.
    no_cause c.point_within.result c.in_ok-point.point Limit c.in_ok-point.was c.point_within.ensures.limit
    (over_unsigned text s.result.0 s.result.1.now s.ensures.form s.ensures.only over))
