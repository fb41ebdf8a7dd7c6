use Rattle.std.proofs.Common.{◌≤◌, drop, reverse}
use Rattle.message_format.specs.Inner.FormatColumns.{lined, IsBorrowed}
use Rattle.message_format.proofs.difference.digits_less.Given as goal

-- the columns so far are those of the difference
abbrev pub invariant-columns : goal.invariant-columns
invariant-columns l = record {
  less : IsBorrowed (drop l.left (lined l.columns l.high)) (drop l.left (lined l.columns l.low)) (reverse l.digits.items) l.borrow;
  within : l.left ≤ l.columns;
}

abbrev pub decreases-columns : goal.decreases-columns
decreases-columns l = l.left
