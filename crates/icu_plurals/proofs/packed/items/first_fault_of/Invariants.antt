use Rattle.std.proofs.Common.{◌≡◌, ◌+◌, ◌≤◌, length}
use Rattle.icu_plurals.specs.ElementsFaults.{first_element_fault}
use Rattle.icu_plurals.proofs.packed.items.first_fault_of.Given as goal

-- The first bad item of the remaining items is the first of all, and places are at most the count
-- of items.
abbrev pub invariant-loop-index : goal.invariant-loop-index
invariant-loop-index l = record {
  first : first_element_fault l.index l.item-iterator ≡ first_element_fault 0 l.list;
  counted : l.index + length l.item-iterator ≤ 65535;
}
