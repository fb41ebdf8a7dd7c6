use Rattle.std.proofs.Common.{◌∙◌, Some, ap, refl}
use Rattle.icu_plurals.specs.ElementsFaults.{ArePartsOf}
use Rattle.icu_plurals.specs.PackedElements.{elements_of, items_of}
use Rattle.icu_plurals.specs.Inner.ElementsReading.{read_elements}
use Rattle.icu_plurals.specs.Inner.ElementsViews.{lent_parts}
use Rattle.icu_plurals.proofs.CheckedElements.{are_cut, cut_shows, items_of_rest, lent_rest, rest_is_list}
use Rattle.icu_plurals.proofs.packed.values.Values.of_checked.Goals as goal

pub unwrap-parts-requires : goal.unwrap-parts-requires
unwrap-parts-requires c =
    are_cut (λ parts. ArePartsOf (lent_parts parts) c.args.bytes.now) c.args.bytes.now c.parts_of.result c.requires c.parts_of.ensures

pub from_checked-requires : goal.from_checked-requires
from_checked-requires c =
    let bytes = c.args.bytes.now in
    let parts = c.unwrap-parts.result in
    let shown = cut_shows bytes c.parts_of.result parts c.requires c.parts_of.ensures c.unwrap-parts.ensures in
    let same = ap (λ rest. rest.now) c.unwrap_or.ensures ∙ lent_rest parts.rest _ refl in
    rest_is_list c.read_again.ensures (items_of (read_elements bytes)) c.unwrap_or.result.now _ shown.list same

pub invariant_of-result : goal.invariant_of-result
invariant_of-result c =
    let bytes = c.args.bytes.now in
    let parts = c.unwrap-parts.result in
    let shown = cut_shows bytes c.parts_of.result parts c.requires c.parts_of.ensures c.unwrap-parts.ensures in
    let same = ap (λ rest. rest.now) c.unwrap_or.ensures ∙ lent_rest parts.rest _ refl in
    record {
      good =
          (items_of_rest c.read_again.ensures (items_of (read_elements bytes)) c.from_checked.result c.unwrap_or.result.now _ shown.fit
          shown.list same c.from_checked.ensures).1;
    }

pub returns : goal.returns
returns c =
    let bytes = c.args.bytes.now in
    let parts = c.unwrap-parts.result in
    let shown = cut_shows bytes c.parts_of.result parts c.requires c.parts_of.ensures c.unwrap-parts.ensures in
    let same = ap (λ rest. rest.now) c.unwrap_or.ensures ∙ lent_rest parts.rest _ refl in
    let default = c.value_of.ensures ∙ shown.default_value in
    let items = (items_of_rest c.read_again.ensures (items_of (read_elements bytes)) c.from_checked.result c.unwrap_or.result.now _
    shown.fit shown.list same c.from_checked.ensures).0 in
    λ k. elements_of (record { default = default k; items = Some (items k) })
