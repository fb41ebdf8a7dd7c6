use Rattle.std.proofs.Common.{◌≡◌, ◌↔◌, ◌∙◌, ℕ, List, Err, sym, ap, subst}
use Rattle.std.proofs.lemmas.Result.{err_from_is_err_and}
use Rattle.fixed_decimal.specs.Written.{WritesUnsigned, WritesDecimal}
use Rattle.fixed_decimal.specs.Places.{IsWithinLimit, IsOverLimit}
use Rattle.fixed_decimal.specs.declared.decimal.Decimal.{Decimal}
use Rattle.fixed_decimal.specs.declared.error.DecimalError.TheVariants.{Syntax, Limit, Memory}
use Rattle.fixed_decimal.proofs.Points.{reads_at}
use Rattle.fixed_decimal.proofs.Refusals.{carried, no_cause, accepted, refused_otherwise, memory_is_not_syntax, memory_is_not_limit}
use Rattle.fixed_decimal.proofs.decimal.Decimal.from_str.Goals as goal
use Rattle.fixed_decimal.proofs.decimal.Decimal.from_str.Goals.{After-parts_within}

-- when the text is out of form
out_of_form : (c : After-parts_within) → (c.parts_within.result ≡ Err Syntax) ↔ ((x : Decimal) → ¬ (WritesDecimal c.args.text.now x))
out_of_form c = subst
    (λ (t : List ℕ). (c.parts_within.result ≡ Err Syntax) ↔ ((x : Decimal)
    → ¬ (WritesDecimal t x))) c.as_bytes.ensures.value c.parts_within.ensures.syntax

-- when it is over the limit
over : (c : After-parts_within) → (c.parts_within.result ≡ Err Limit)
    ↔ ((x : Decimal) × WritesDecimal c.args.text.now x × IsOverLimit x.absolute)
over c = subst
    (λ (t : List ℕ). (c.parts_within.result ≡ Err Limit) ↔ ((x : Decimal)
    × WritesDecimal t x × IsOverLimit x.absolute)) c.as_bytes.ensures.value c.parts_within.ensures.limit

pub returns-in_err-sign-clause-syntax : goal.returns-in_err-sign-clause-syntax
returns-in_err-sign-clause-syntax c =
    let p = err_from_is_err_and c.from_residual.result c.from_residual.ensures.1 in
    carried c.parts_within.result c.from_residual.result c.in_err-sign.field-0.0 Syntax c.in_err-sign.was (p.1
    ∙ ap Err p.2) (out_of_form (goal.at.returns-in_err-sign-clause-syntax c).After-parts_within) (λ h. h) (λ h. h)

pub returns-in_err-sign-clause-limit : goal.returns-in_err-sign-clause-limit
returns-in_err-sign-clause-limit c =
    let p = err_from_is_err_and c.from_residual.result c.from_residual.ensures.1 in
    carried c.parts_within.result c.from_residual.result c.in_err-sign.field-0.0 Limit c.in_err-sign.was (p.1
    ∙ ap Err p.2) (over (goal.at.returns-in_err-sign-clause-limit c).After-parts_within) (λ h. h) (λ h. h)

pub returns-in_err-from_point-clause-syntax : goal.returns-in_err-from_point-clause-syntax
returns-in_err-from_point-clause-syntax c =
    let p = err_from_is_err_and c.from_residual-in_err-from_point.result c.from_residual-in_err-from_point.ensures.1 in
    refused_otherwise c.from_residual-in_err-from_point.result Memory Syntax (p.1
    ∙ ap Err (p.2 ∙ c.in_err-from_point.ensures.only_memory)) memory_is_not_syntax
    (no_cause c.parts_within.result
    (c.in_ok-sign.sign, c.in_ok-sign.digits, c.in_ok-sign.point) Syntax c.in_ok-sign.was
    (out_of_form (goal.at.returns-in_err-from_point-clause-syntax c).After-parts_within))

pub returns-in_err-from_point-clause-limit : goal.returns-in_err-from_point-clause-limit
returns-in_err-from_point-clause-limit c =
    let p = err_from_is_err_and c.from_residual-in_err-from_point.result c.from_residual-in_err-from_point.ensures.1 in
    refused_otherwise c.from_residual-in_err-from_point.result Memory Limit (p.1
    ∙ ap Err (p.2 ∙ c.in_err-from_point.ensures.only_memory)) memory_is_not_limit
    (no_cause c.parts_within.result
    (c.in_ok-sign.sign, c.in_ok-sign.digits, c.in_ok-sign.point) Limit c.in_ok-sign.was
    (over (goal.at.returns-in_err-from_point-clause-limit c).After-parts_within))

pub returns-clause-number : goal.returns-clause-number
returns-clause-number c =
    let x = c.in_ok-from_point.field-0 in
    let parts = c.in_ok-sign.ensures.parts in
    let read : WritesUnsigned c.in_ok-sign.digits.now x × IsWithinLimit x
    = reads_at c.in_ok-sign.digits.now c.in_ok-sign.point x parts.1 c.in_ok-from_point.ensures.places in
    ((c.in_ok-sign.digits.now, read.0, sym c.as_bytes.ensures.value ∙ parts.0), read.1)

pub returns-clause-syntax : goal.returns-clause-syntax
returns-clause-syntax c =
    accepted _ Syntax
    (no_cause c.parts_within.result (c.in_ok-sign.sign, c.in_ok-sign.digits, c.in_ok-sign.point) Syntax c.in_ok-sign.was
    (out_of_form (goal.at.returns-clause-syntax c).After-parts_within))

pub returns-clause-limit : goal.returns-clause-limit
returns-clause-limit c =
    accepted _ Limit
    (no_cause c.parts_within.result (c.in_ok-sign.sign, c.in_ok-sign.digits, c.in_ok-sign.point) Limit c.in_ok-sign.was
    (over (goal.at.returns-clause-limit c).After-parts_within))
