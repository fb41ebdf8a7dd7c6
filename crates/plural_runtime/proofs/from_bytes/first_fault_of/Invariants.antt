use Rattle.std.proofs.Common.{◌≡◌, ◌+◌, length}
use Rattle.plural_runtime.specs.PackedRelations.{first_relation_fault}
use Rattle.plural_runtime.proofs.from_bytes.first_fault_of.Given as goal

-- The first bad item of the remaining items is the first of all.
abbrev pub invariant-loop-place : goal.invariant-loop-place
invariant-loop-place l = record {
  count : l.place + length l.item-iterator ≡ length l.list;
  left : first_relation_fault l.place l.item-iterator ≡ first_relation_fault 0 l.list;
}
