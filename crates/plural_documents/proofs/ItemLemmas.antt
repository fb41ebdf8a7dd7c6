-- The items of an array, one after another.
use Rattle.std.proofs.Common.{◌≡◌, List, [], ◌∷◌, ◌++◌, refl, ap}
use Rattle.serde_json.specs.Data.{Items, no_items, item}
use Rattle.serde_json.specs.View.{items_view, view}
use Rattle.serde_json.specs.declared.value.Value.{Value}

-- these come after the values
abbrev pub items_after : List Value → Items → Items
items_after [] more = more
items_after (value ∷ values) more = item (view value) (items_after values more)

pub after_one_more : (values : List Value) (value : Value) (more : Items)
    → items_after (values ++ value ∷ []) more ≡ items_after values (item (view value) more)
after_one_more [] value more = refl
after_one_more (first ∷ values) value more = ap (item (view first)) (after_one_more values value more)

pub with_no_more : (values : List Value) → items_after values no_items ≡ items_view values
with_no_more [] = refl
with_no_more (value ∷ values) = ap (item (view value)) (with_no_more values)
