use Rattle.std.proofs.Common.{◌≡◌, ◌-◌, ◌*◌, ◌^◌, ◌<◌, ℕ, List, take, drop, arith, refl, subst, sym, ap, ◌∙◌, lit<}
use Rattle.std.proofs.Math.Nat.{one-le-pow}
use Rattle.fixed_decimal.specs.Digits.{value_of}
use Rattle.fixed_decimal.specs.Places.{Places, digits_from}
use Rattle.fixed_decimal.proofs.Runs.{run_value, run_below, past_span}
use Rattle.fixed_decimal.proofs.unsigned.UnsignedDecimal.number_from.Goals as goal

pub returns-then-start-len-clause-value : goal.returns-then-start-len-clause-value
returns-then-start-len-clause-value c =
    sym (ap (λ (x : Places). value_of (digits_from x c.args.place c.args.count)) (sym c.self.view_is)
    ∙ past_span c.self.inside c.args.place c.args.count (omega arith))

pub returns-then-start-len-clause-below : goal.returns-then-start-len-clause-below
returns-then-start-len-clause-below c = one-le-pow c.args.count 10 (lit< tt)

-- what is read is the number of a part of the span
is_read : (c : goal.After-number_of_digits) → c.number_of_digits.result
    ≡ value_of (take (c.min-stop.result - c.saturating_sub-start.result) (drop c.saturating_sub-start.result c.self.inside.span.items))
is_read c =
    c.number_of_digits.ensures
    ∙ ap (λ (ds : List ℕ). value_of
    (take (c.min-stop.result - c.saturating_sub-start.result) (drop c.saturating_sub-start.result ds))) c.as_slice.ensures

pub returns-clause-value : goal.returns-clause-value
returns-clause-value c =
    ap (λ n. n * 10 ^ (c.saturating_sub-end.result - c.min-stop.result)) (is_read c)
    ∙ run_value c.self.inside c.args.place c.args.count _ c.saturating_sub-start.result c.min-stop.result c.saturating_sub-end.result
    refl c.saturating_sub-start.ensures (omega arith) c.saturating_sub-end.ensures (omega arith)
    ∙ ap (λ (x : Places). value_of (digits_from x c.args.place c.args.count)) c.self.view_is

pub returns-clause-below : goal.returns-clause-below
returns-clause-below c =
    subst (λ n. n * 10 ^ (c.saturating_sub-end.result - c.min-stop.result) < 10 ^ c.args.count) (sym (is_read c))
    (run_below c.self.inside c.args.place c.args.count _ c.saturating_sub-start.result c.min-stop.result c.saturating_sub-end.result
    refl c.saturating_sub-start.ensures (omega arith) c.saturating_sub-end.ensures (omega arith) c.self.invariant)
