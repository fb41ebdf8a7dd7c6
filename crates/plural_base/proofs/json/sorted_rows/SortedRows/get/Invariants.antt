use Rattle.std.proofs.Common.{◌-◌, ◌≤◌, length}
use Rattle.plural_base.proofs.reading.RowsFound.{IsBefore, IsBehind}
use Rattle.plural_base.proofs.json.sorted_rows.SortedRows.get.Given as goal

-- the locale comes behind the entries below the low place, and before those from the high place on
abbrev pub invariant-loop-low : goal.invariant-loop-low
invariant-loop-low g l = record {
  order : l.low ≤ l.high;
  within : l.high ≤ length l.entries;
  behind : IsBehind l.locale l.entries l.low;
  before : IsBefore l.locale l.entries l.high;
}

abbrev pub decreases-loop-low : goal.decreases-loop-low
decreases-loop-low g l = l.high - l.low
