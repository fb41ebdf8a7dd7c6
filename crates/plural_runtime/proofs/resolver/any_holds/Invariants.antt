use Rattle.std.proofs.Common.{◌≡◌, ◌≤◌, ◌%◌, ◌==◌, length, IsTrue}
use Rattle.std.specs.Fn.{iterate}
use Rattle.plural_reference.specs.Truth.{is_in_ranges}
use Rattle.plural_runtime.specs.Inner.RuleReading.{ranges_in}
use Rattle.plural_runtime.proofs.counting.NeededGroups.{needed_from}
use Rattle.plural_runtime.proofs.resolver.any_holds.Given as goal

-- No range so far contains the value, so the remaining ranges (at least one) decide, and need the
-- rest of the count.
abbrev pub invariant-loop-others : goal.invariant-loop-others
invariant-loop-others g l = record {
  whole : IsTrue (length l.rest % 8 == 0);
  some : 8 ≤ length l.rest;
  left : is_in_ranges (ranges_in l.rest) l.value ≡ is_in_ranges (ranges_in l.ranges) l.value;
  count : iterate g.C.Counter.after_one (needed_from l.value (ranges_in l.rest)) l.counter
      ≡ iterate g.C.Counter.after_one (needed_from l.value (ranges_in l.ranges)) l.fn.counter;
}

abbrev pub decreases-loop-others : goal.decreases-loop-others
decreases-loop-others g l = length l.rest
