use Rattle.std.proofs.Common.{◌≤◌, drop, reverse}
use Rattle.message_format.specs.Inner.FormatColumns.{lined, IsCarried}
use Rattle.message_format.proofs.difference.digits_more.Given as goal

-- the columns so far are those of the sum
abbrev pub invariant-columns : goal.invariant-columns
invariant-columns l = record {
  sum : IsCarried (drop l.left (lined l.columns l.first)) (drop l.left (lined l.columns l.second)) (reverse l.digits.items) l.carry;
  within : l.left ≤ l.columns;
}

abbrev pub decreases-columns : goal.decreases-columns
decreases-columns l = l.left
