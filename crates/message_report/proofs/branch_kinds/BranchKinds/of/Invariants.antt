use Rattle.std.proofs.Common.{length}
use Rattle.message_pattern.specs.PatternParts.{branches_of, parts_view}
use Rattle.message_report.proofs.KindLemmas.{Seen}
use Rattle.message_report.proofs.branch_kinds.BranchKinds.of.Given as goal

-- the branches that were passed are seen
abbrev pub invariant-loop-left : goal.invariant-loop-left
invariant-loop-left l = Seen l.kinds (branches_of l.depth (parts_view l.left)) (branches_of l.depth (parts_view l.parts))

abbrev pub decreases-loop-left : goal.decreases-loop-left
decreases-loop-left l = length l.left
