use Rattle.std.proofs.Common.{◌≡◌, ◌∙◌, IsTrue, map, sym, subst}
use Rattle.std.specs.List.{list_all}
use Rattle.icu_plurals.specs.Elements.{each_by}
use Rattle.icu_plurals.specs.Inner.ElementsReading.{is_item, read_item}
use Rattle.icu_plurals.specs.Inner.ElementsViews.{lent_value}
use Rattle.icu_plurals.proofs.OneWalk.{walked, with_items}
use Rattle.icu_plurals.proofs.packed.values.Values.by_key.Goals as goal

pub loop-item-init : goal.loop-item-init
loop-item-init c =
    let all = c.args.self.now.items in
    let same : c.into_iter-item-iterator.result ≡ all = c.into_iter-item-iterator.ensures.into_iter_gives ∙ c.iter-item-items.ensures in
    record {
      items = subst (λ list. IsTrue (list_all is_item list)) (sym same) c.args.self.now.good;
      walked =
          (λ k. with_items (each_by lent_value (c.new-elements.ensures k)) (map read_item (same k)))
          ∙ walked (lent_value c.args.self.now.default) (map read_item all);
    }
