use Rattle.std.proofs.Common.{◌≡◌, ◌<◌, ℕ, ℤ, ◌∙◌, sym, subst, to_z, w32, arith}
use Rattle.std.proofs.lemmas.Int.{ints}
use Rattle.fixed_decimal.specs.SameValue.{digit_of}
use Rattle.message_format.proofs.Outside.{zeros_between, none_between}
use Rattle.message_format.proofs.numbers.highest_digit.Goals as goal
use Rattle.message_format.proofs.numbers.highest_digit.Goals.{then-digit_of-ne0, else-digit_of-ne0}

pub loop-power-preserved : goal.loop-power-preserved
loop-power-preserved c =
    let n = c.args.number.now in
    let least = c.loop-power.invariant.low in
    elim c.if-digit_of-ne0.branch [
      | then-digit_of-ne0 w ↦
          let same : to_z w32 c.loop-power.power-bits ≡ to_z w32 c.if-digit_of-ne0.top-bits = sym w.top-is in
          let here : 0 < digit_of n (to_z w32 c.loop-power.power-bits) =
          subst (λ (d : ℕ). 0 < d) c.digit_of.ensures (grind (arith, w.if-digit_of-ne0.true)) in
          record {
            zeros = λ k l h. none_between n _ _ k (omega (arith, ints, same)) l h;
            digit = subst (λ (i : ℤ). 0 < digit_of n i) same here;
            low = omega (arith, ints);
          }
      | else-digit_of-ne0 w ↦
          let same : to_z w32 c.loop-power.top-bits ≡ to_z w32 c.if-digit_of-ne0.top-bits = sym w.top-is in
          let zero : digit_of n (to_z w32 c.loop-power.power-bits) ≡ 0 = sym c.digit_of.ensures ∙ w.if-digit_of-ne0.false in
          record {
            zeros = λ k l h. zeros_between n _ _ _ k c.loop-power.invariant.zeros zero (omega (arith, ints)) (omega (arith, ints, same)) h;
            digit = subst (λ (i : ℤ). 0 < digit_of n i) same c.loop-power.invariant.digit;
            low = omega (arith, ints);
          }
    ]
