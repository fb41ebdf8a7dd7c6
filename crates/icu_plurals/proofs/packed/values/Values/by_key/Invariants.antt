use Rattle.std.proofs.Common.{◌≡◌, map, IsTrue}
use Rattle.std.specs.List.{list_all}
use Rattle.icu_plurals.specs.Elements.{each_by}
use Rattle.icu_plurals.specs.Inner.ElementsReading.{is_item, read_item}
use Rattle.icu_plurals.specs.Inner.ElementsViews.{lent_value, lent_values}
use Rattle.icu_plurals.proofs.OneWalk.{with_items}
use Rattle.icu_plurals.proofs.packed.values.Values.by_key.Given as goal

-- The remaining items, put into the present values, give all values by key.
abbrev pub invariant-loop-item : goal.invariant-loop-item
invariant-loop-item l = record {
  items : IsTrue (list_all is_item l.item-iterator);
  walked : with_items (each_by lent_value l.elements) (map read_item l.item-iterator) ≡ lent_values l.self;
}
