use Rattle.std.proofs.Common.{◌<◌, ◌+◌, ℕ, List, drop, length, Option}
use Rattle.std.specs.Prelude.{IfSome}
use Rattle.message_pattern.specs.PatternParts.{Part, branches_of}
use Rattle.message_format.specs.FormatParts.{IsFirstChosen}
use Rattle.packed_format.proofs.FirstNumbers.{FirstFrom, left_from}
use Rattle.packed_format.proofs.branches.first_chosen.Given as goal

-- no branch that was passed is chosen
abbrev pub invariant-loop-next : goal.invariant-loop-next
invariant-loop-next g l = record {
  passed : (found : Option (List Part)) → FirstFrom (g.C.Chooser.IsChosen l.chooser) l.depth l.pattern l.next found
      → IsFirstChosen (g.C.Chooser.IsChosen l.chooser) (branches_of l.depth (drop (l.index + 1) l.pattern)) found;
  behind : IfSome l.next (λ (at : ℕ). l.index < at);
}

abbrev pub decreases-loop-next : goal.decreases-loop-next
decreases-loop-next g l = left_from (length l.pattern) l.next
