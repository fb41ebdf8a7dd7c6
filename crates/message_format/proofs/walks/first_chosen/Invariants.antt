use Rattle.std.proofs.Common.{◌≡◌, ◌≤◌, length}
use Rattle.message_pattern.specs.PatternParts.{parts_view}
use Rattle.message_format.specs.FormatBranches.{behind_end}
use Rattle.message_format.specs.Inner.FormatViews.{ArePassed}
use Rattle.message_format.proofs.walks.first_chosen.Given as goal

-- no branch that was passed is chosen
abbrev pub invariant-loop-left : goal.invariant-loop-left
invariant-loop-left g l = record {
  passed : ArePassed (g.C.Chooser.IsChosen l.chooser) l.depth (parts_view l.parts) (parts_view l.left);
  behind : behind_end l.depth (parts_view l.left) ≡ behind_end l.depth (parts_view l.parts);
  shorter : length l.left ≤ length l.parts;
}

abbrev pub decreases-loop-left : goal.decreases-loop-left
decreases-loop-left g l = length l.left
