use Rattle.std.proofs.Common.{◌≡◌, ◌∙◌, ap, take, subst, sym, arith, true, false}
use Rattle.fixed_decimal.specs.Inner.RoundingSteps.{IsOdd, IsEndBefore, run_digit}
use Rattle.fixed_decimal.proofs.RoundedDigits.{take-min}
use Rattle.fixed_decimal.proofs.rounding.rounded_end.Goals as goal
use Rattle.fixed_decimal.proofs.rounding.rounded_end.Goals.{then-up, else-up}

pub returns : goal.returns
returns c =
    let s = c.args.digits.now in
    let held : take c.min.result s ≡ take c.args.kept s = take-min c.args.kept s c.min.result (omega arith) in
    let digit : c.if-up.end_before ≡ run_digit c.goes_up-up.result
    = elim c.if-up.branch [
      | then-up w ↦ (let t : c.goes_up-up.result ≡ true = w.if-up.true in w.end_before-is ∙ sym (ap (λ b. run_digit b) t))
      | else-up w ↦ (let t : c.goes_up-up.result ≡ false = w.if-up.false in w.end_before-is ∙ sym (ap (λ b. run_digit b) t))
    ] in
    record {
      rest = c.rest_after-rest.result;
      odd = c.is_odd.result;
      is_rest = c.rest_after-rest.ensures;
      is_odd = subst (λ ds. IsOdd ds c.is_odd.result) held c.is_odd.ensures;
      is_up = c.goes_up-up.ensures;
      is_end = subst (λ ds. IsEndBefore ds (run_digit c.goes_up-up.result) c.end_before.result) held
          (subst (λ d. IsEndBefore (take c.min.result s) d c.end_before.result) digit c.end_before.ensures);
    }
