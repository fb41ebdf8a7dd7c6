use Rattle.std.proofs.Common.{◌≤◌, ◌-◌, take}
use Rattle.plural_operands.specs.Inner.ShortTexts.{AreDigitsOf}
use Rattle.plural_operands.proofs.operands.short_text.front_of.Given as goal

-- so many digits are at the front, and write the number so far
abbrev pub invariant-loop-at : goal.invariant-loop-at
invariant-loop-at l = record {
  within : l.at ≤ l.most;
  so_far : AreDigitsOf (take l.at l.text) l.number;
}

abbrev pub decreases-loop-at : goal.decreases-loop-at
decreases-loop-at l = l.most - l.at
