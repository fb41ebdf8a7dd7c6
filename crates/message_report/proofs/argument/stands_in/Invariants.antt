use Rattle.std.proofs.Common.{◌≡◌, length, map}
use Rattle.message_pattern.specs.PatternParts.{selector_view}
use Rattle.message_report.specs.PatternBranches.{stands_in}
use Rattle.message_report.proofs.argument.stands_in.Given as goal

-- the selectors that were passed are others
abbrev pub invariant-loop-left : goal.invariant-loop-left
invariant-loop-left l =
    stands_in (selector_view l.selector) (map selector_view l.left) ≡ stands_in (selector_view l.selector) (map selector_view l.others)

abbrev pub decreases-loop-left : goal.decreases-loop-left
decreases-loop-left l = length l.left
