use Rattle.std.proofs.Common.{◌≡◌, ℤ, ◌<ℤ◌, ◌≤ℤ◌, neg_ℤ, pos}
use Rattle.fixed_decimal.specs.SameValue.{digit_of}
use Rattle.message_format.proofs.numbers.has_same_digits.Given as goal

-- the digits below this power of ten are the same
abbrev pub invariant-loop-power : goal.invariant-loop-power
invariant-loop-power l = record {
  same : (k : ℤ) → k <ℤ l.power → digit_of l.number k ≡ digit_of l.other k;
  low : neg_ℤ (pos 32767) ≤ℤ l.power;
}
