use Rattle.std.proofs.Common.{◌≡◌, ◌∙◌, ap, sym}
use Rattle.std.specs.Prelude.{map}
use Rattle.std.specs.Cow.{cow_slice_items}
use Rattle.std.specs.List.{list_all}
use Rattle.packed_list.specs.Inner.ListReading.{items_in}
use Rattle.plural_runtime.specs.PackedRelations.{relation_bytes, is_relation}
use Rattle.plural_runtime.specs.Inner.RuleReading.{relation_in, relations_in}
use Rattle.plural_runtime.proofs.bytes.RuleItems.{packed_are_relations}
use Rattle.plural_runtime.proofs.rule.Rule.list.Goals as goal

pub returns-clause-relations : goal.returns-clause-relations
unfolding relations_in
returns-clause-relations c =
    let here : items_in (cow_slice_items c.self.inside.bytes) ≡ c.from_checked.result = ap items_in (sym c.as_slice.ensures.value)
    ∙ c.read_again.ensures _ _ c.from_checked.ensures in
    sym (ap (map relation_in) here) ∙ c.self.view_is

pub returns-clause-items : goal.returns-clause-items
returns-clause-items c =
    let here : items_in (cow_slice_items c.self.inside.bytes) ≡ c.from_checked.result = ap items_in (sym c.as_slice.ensures.value)
    ∙ c.read_again.ensures _ _ c.from_checked.ensures in
    ap (list_all is_relation) (sym here ∙ c.read_again.ensures _ _ c.self.invariant.packed) ∙ packed_are_relations _

pub returns-clause-packed : goal.returns-clause-packed
returns-clause-packed c =
    let here : items_in (cow_slice_items c.self.inside.bytes) ≡ c.from_checked.result = ap items_in (sym c.as_slice.ensures.value)
    ∙ c.read_again.ensures _ _ c.from_checked.ensures in
    ap (map relation_bytes) (sym c.self.view_is) ∙ sym (c.read_again.ensures _ _ c.self.invariant.packed) ∙ here
