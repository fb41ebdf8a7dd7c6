use Rattle.std.proofs.Common.{◌≡◌, ◌↔◌, ℕ, List, Err, ◌∙◌, ap, subst}
use Rattle.std.proofs.lemmas.Result.{err_from_is_err_and, IfOk-weaker}
use Rattle.fixed_decimal.specs.Places.{Places, IsWithinLimit, IsOverLimit}
use Rattle.fixed_decimal.specs.Written.{WritesUnsigned}
use Rattle.fixed_decimal.specs.Inner.TextParts.{places_around}
use Rattle.fixed_decimal.specs.declared.error.DecimalError.TheVariants.{Syntax, Limit}
use Rattle.fixed_decimal.proofs.Points.{reads_at}
use Rattle.fixed_decimal.proofs.Refusals.{carried, no_cause, making_alone, memory_is_not_syntax, memory_is_not_limit}
use Rattle.fixed_decimal.proofs.unsigned.UnsignedDecimal.from_str.Goals as goal
use Rattle.fixed_decimal.proofs.unsigned.UnsignedDecimal.from_str.Goals.{After-point_within}

-- when the text is out of form
out_of_form : (c : After-point_within) → (c.point_within.result ≡ Err Syntax) ↔ ((x : Places) → ¬ (WritesUnsigned c.args.text.now x))
out_of_form c = subst
    (λ (t : List ℕ). (c.point_within.result ≡ Err Syntax) ↔ ((x : Places)
    → ¬ (WritesUnsigned t x))) c.as_bytes-digits.ensures.value c.point_within.ensures.syntax

-- when it is over the limit
over : (c : After-point_within) → (c.point_within.result ≡ Err Limit) ↔ ((x : Places) × WritesUnsigned c.args.text.now x × IsOverLimit x)
over c = subst
    (λ (t : List ℕ). (c.point_within.result ≡ Err Limit) ↔ ((x : Places)
    × WritesUnsigned t x × IsOverLimit x)) c.as_bytes-digits.ensures.value c.point_within.ensures.limit

pub returns-in_err-point-clause-syntax : goal.returns-in_err-point-clause-syntax
returns-in_err-point-clause-syntax c =
    let p = err_from_is_err_and c.from_residual.result c.from_residual.ensures.1 in
    carried c.point_within.result c.from_residual.result c.in_err-point.field-0.0 Syntax c.in_err-point.was (p.1
    ∙ ap Err p.2) (out_of_form (goal.at.returns-in_err-point-clause-syntax c).After-point_within) (λ h. h) (λ h. h)

pub returns-in_err-point-clause-limit : goal.returns-in_err-point-clause-limit
returns-in_err-point-clause-limit c =
    let p = err_from_is_err_and c.from_residual.result c.from_residual.ensures.1 in
    carried c.point_within.result c.from_residual.result c.in_err-point.field-0.0 Limit c.in_err-point.was (p.1
    ∙ ap Err p.2) (over (goal.at.returns-in_err-point-clause-limit c).After-point_within) (λ h. h) (λ h. h)

pub returns-clause-number : goal.returns-clause-number
returns-clause-number c =
    let text = c.as_bytes-digits.result.now in
    IfOk-weaker c.from_point.result (λ x. x ≡ places_around text c.in_ok-point.point)
    (λ x. WritesUnsigned c.args.text.now x × IsWithinLimit x)
    (λ x e. subst (λ (t : List ℕ). WritesUnsigned t x × IsWithinLimit x) c.as_bytes-digits.ensures.value
    (reads_at text c.in_ok-point.point x c.in_ok-point.ensures.point e)) c.from_point.ensures.places

pub returns-clause-syntax : goal.returns-clause-syntax
returns-clause-syntax c =
    making_alone c.from_point.result Syntax c.from_point.ensures.only_memory memory_is_not_syntax
    (no_cause c.point_within.result c.in_ok-point.point Syntax c.in_ok-point.was
    (out_of_form (goal.at.returns-clause-syntax c).After-point_within))

pub returns-clause-limit : goal.returns-clause-limit
returns-clause-limit c =
    making_alone c.from_point.result Limit c.from_point.ensures.only_memory memory_is_not_limit
    (no_cause c.point_within.result c.in_ok-point.point Limit c.in_ok-point.was
    (over (goal.at.returns-clause-limit c).After-point_within))
