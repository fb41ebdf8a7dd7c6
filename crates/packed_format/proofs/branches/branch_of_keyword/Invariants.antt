use Rattle.std.proofs.Common.{◌≡◌, ◌<◌, ◌+◌, ◌-◌, drop, length}
use Rattle.message_pattern.specs.PatternParts.{branches_of}
use Rattle.message_format.specs.FormatBranches.{branch_of_keyword}
use Rattle.packed_format.proofs.branches.branch_of_keyword.Given as goal

-- the branch isn't among those that were passed
abbrev pub invariant-loop-placed : goal.invariant-loop-placed
invariant-loop-placed l = record {
  same : branch_of_keyword l.word (branches_of l.depth (drop l.at l.pattern))
      ≡ branch_of_keyword l.word (branches_of l.depth (drop (l.index + 1) l.pattern));
  behind : l.index < l.at;
}

abbrev pub decreases-loop-placed : goal.decreases-loop-placed
decreases-loop-placed l = length l.pattern - l.at
