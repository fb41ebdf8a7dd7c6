use Rattle.std.proofs.Common.{◌≡◌, map, IsTrue}
use Rattle.std.specs.List.{list_all}
use Rattle.icu_plurals.specs.PackedElements.{value_of_key}
use Rattle.icu_plurals.specs.Inner.ElementsReading.{is_item, read_item}
use Rattle.icu_plurals.proofs.packed.value.find_value.Given as goal

-- The first remaining item with the key is the first of all items with the key.
abbrev pub invariant-loop-item : goal.invariant-loop-item
invariant-loop-item l = record {
  items : IsTrue (list_all is_item l.item-iterator);
  found : value_of_key l.key (map read_item l.item-iterator) ≡ value_of_key l.key (map read_item l.list);
}
