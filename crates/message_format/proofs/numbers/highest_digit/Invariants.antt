use Rattle.std.proofs.Common.{◌≡◌, ◌<◌, ℤ, ◌<ℤ◌, ◌≤ℤ◌, neg_ℤ, pos}
use Rattle.fixed_decimal.specs.SameValue.{digit_of}
use Rattle.message_format.proofs.numbers.highest_digit.Given as goal

-- between the highest digit so far and this power of ten the digits are 0
abbrev pub invariant-loop-power : goal.invariant-loop-power
invariant-loop-power l = record {
  zeros : (k : ℤ) → l.top <ℤ k → k <ℤ l.power → digit_of l.number k ≡ 0;
  digit : 0 < digit_of l.number l.top;
  low : neg_ℤ (pos 32767) ≤ℤ l.power;
}
