use Rattle.std.proofs.Common.{◌≤◌, ◌-◌, take}
use Rattle.plural_operands.specs.Inner.ShortTexts.{AreDigitsOf}
use Rattle.number_lines.proofs.plain.front_digits.Given as goal

-- so many digits are at the front, and write the number so far
abbrev pub invariant-loop-at : goal.invariant-loop-at
invariant-loop-at l = record {
  few : l.at ≤ 18;
  so_far : AreDigitsOf (take l.at l.bytes) l.number;
}

abbrev pub decreases-loop-at : goal.decreases-loop-at
decreases-loop-at l = 18 - l.at
