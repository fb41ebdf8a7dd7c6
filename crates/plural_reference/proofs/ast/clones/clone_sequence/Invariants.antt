use Rattle.std.proofs.Common.{◌≡◌, take}
use Rattle.plural_reference.proofs.ast.clones.clone_sequence.Given as goal

-- the clones so far are clones of the elements so far
abbrev pub invariant-loop-value : goal.invariant-loop-value
invariant-loop-value g l = l.clones.items ≡ take l.value-index l.source
