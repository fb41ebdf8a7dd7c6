use Rattle.std.proofs.Common.{◌≡◌, length}
use Rattle.message_pattern.specs.PatternParts.{parts_view}
use Rattle.message_report.specs.PatternBranches.{has_number, inside_of}
use Rattle.message_report.proofs.argument.has_number.Given as goal

-- the parts that were passed say no number
abbrev pub invariant-loop-left : goal.invariant-loop-left
invariant-loop-left l =
    has_number l.depth l.name (inside_of l.depth (parts_view l.left)) ≡ has_number l.depth l.name (inside_of l.depth (parts_view l.parts))

abbrev pub decreases-loop-left : goal.decreases-loop-left
decreases-loop-left l = length l.left
