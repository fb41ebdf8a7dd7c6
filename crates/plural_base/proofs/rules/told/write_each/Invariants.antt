use Rattle.plural_base.proofs.integers.Writes.{IsWritten}
use Rattle.plural_base.proofs.rules.told.write_each.Given as goal

abbrev pub invariant-loop-left : goal.invariant-loop-left
invariant-loop-left l = IsWritten l.fn.entries l.entries l.places l.left l.entry

-- the mask of the places that are left gets smaller
abbrev pub decreases-loop-left : goal.decreases-loop-left
decreases-loop-left l = l.left
