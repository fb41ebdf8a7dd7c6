-- Not a definition of the subject: the items that the code makes of rules, and those that it has
-- left to read.
use Rattle.std.specs.Prelude.{◌≢◌, ℕ, List, [], ◌∷◌, map, drop, ⊤}
use Rattle.plural_base.specs.declared.rules.bytes.items.RuleItem.{RuleItem}
use Rattle.plural_base.specs.declared.rules.bytes.keyed.KeyedRules.{KeyedRules}

-- the bytes of an item that borrows its rule
abbrev pub lent_item : RuleItem → List ℕ
lent_item item = item.key ∷ item.bytes.now

-- the bytes of each item
abbrev pub lent_items : List RuleItem → List (List ℕ)
lent_items items = map lent_item items

-- the items that are left
abbrev pub items_left : KeyedRules → List (List ℕ)
items_left items = drop items.place items.list

-- the first item, if any, doesn't have this key
abbrev pub HasOtherKey : ℕ → List (List ℕ) → Type 0
HasOtherKey key [] = ⊤
HasOtherKey key ([] ∷ items) = ⊤
HasOtherKey key ((first ∷ bytes) ∷ items) = first ≢ key
