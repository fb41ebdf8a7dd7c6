use Rattle.std.proofs.Common.{◌≡◌, ◌≤◌, length}
use Rattle.message_pattern.specs.PatternParts.{parts_view}
use Rattle.message_format.specs.FormatBranches.{behind_end}
use Rattle.message_format.proofs.walks.behind_end.Given as goal

-- the end isn't among the parts that were passed
abbrev pub invariant-loop-left : goal.invariant-loop-left
invariant-loop-left l = record {
  rest : behind_end l.depth (parts_view l.left) ≡ behind_end l.depth (parts_view l.parts);
  shorter : length l.left ≤ length l.parts;
}

abbrev pub decreases-loop-left : goal.decreases-loop-left
decreases-loop-left l = length l.left
