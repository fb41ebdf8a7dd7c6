use Rattle.std.proofs.Common.{◌≡◌, map}
use Rattle.plural_reference.specs.declared.ast.AndCondition.{AndCondition}
use Rattle.plural_runtime.specs.PackedTree.{unpacked_groups}
use Rattle.plural_runtime.proofs.truth.TreeGroups.{glued}
use Rattle.plural_runtime.proofs.unpack.add_groups.Given as goal

-- The groups that are done, the open group and the remaining relations make the tree.
abbrev pub invariant-loop-item : goal.invariant-loop-item
invariant-loop-item l = glued (map (λ (c : AndCondition). c.0) l.groups.items) l.group.items l.item-iterator ≡ unpacked_groups l.rule
