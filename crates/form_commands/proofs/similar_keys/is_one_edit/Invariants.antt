use Rattle.std.proofs.Common.{◌≡◌, length}
use Rattle.form_commands.specs.SimilarKeys.{is_one_edit}
use Rattle.form_commands.proofs.similar_keys.is_one_edit.Given as goal

-- their fronts are the same
abbrev pub invariant-loop-ones : goal.invariant-loop-ones
invariant-loop-ones l = is_one_edit l.one l.other ≡ is_one_edit l.ones l.others

abbrev pub decreases-loop-ones : goal.decreases-loop-ones
decreases-loop-ones l = length l.ones
