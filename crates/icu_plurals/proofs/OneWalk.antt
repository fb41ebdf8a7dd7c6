-- One walk over items, in which each item sets the value of its key unless an earlier item did,
-- finds the first item of each key.
use Rattle.std.proofs.Common.{◌≡◌, ℕ, List, [], ◌∷◌, Bool, true, false, Option, Some, None, refl, sym, ◌∙◌}
use Rattle.std.specs.Prelude.{◌==◌, find, option_map, if◌then◌else◌}
use Rattle.std.specs.Option.{option_or}
use Rattle.icu_plurals.specs.Elements.{Elements, only_other}
use Rattle.icu_plurals.specs.PackedElements.{PackedValue, PackedItem, elements_of, value_of_key}
use Rattle.icu_plurals.specs.Inner.ElementsReading.{with_item}

-- the values by key, and those of items, one after the other
abbrev pub with_items : Elements PackedValue → List PackedItem → Elements PackedValue
with_items e [] = e
with_items e (item ∷ items) = with_items (with_item e item) items

-- the value of a key, or the first item's if it is absent
abbrev or_first : Elements PackedValue → List PackedItem → Elements PackedValue
or_first e items = record {
  other = e.other;
  zero = option_or e.zero (value_of_key 0 items);
  one = option_or e.one (value_of_key 1 items);
  two = option_or e.two (value_of_key 2 items);
  few = option_or e.few (value_of_key 3 items);
  many = option_or e.many (value_of_key 4 items);
  explicit_zero = option_or e.explicit_zero (value_of_key 5 items);
  explicit_one = option_or e.explicit_one (value_of_key 6 items);
}

-- a value that is put in an absent place is the first item's, if that item has the key
put-find : (has : Bool) (key : ℕ) (value : Option PackedValue) (item : PackedItem) (items : List PackedItem)
    → option_or (if has then option_or value (Some item.value) else value) (value_of_key key items)
    ≡ option_or value (option_map (λ (i : PackedItem). i.value) (if has then Some item else find (λ (i : PackedItem). i.key == key) items))
put-find true key None item items = refl
put-find true key (Some value) item items = refl
put-find false key value item items = refl

-- an item is put, or found as the first of all
or_first-cons : (e : Elements PackedValue) (item : PackedItem) (items : List PackedItem)
    → or_first (with_item e item) items ≡ or_first e (item ∷ items)
or_first-cons e item items = λ k. record {
  other = e.other;
  zero = put-find (item.key == 0) 0 e.zero item items k;
  one = put-find (item.key == 1) 1 e.one item items k;
  two = put-find (item.key == 2) 2 e.two item items k;
  few = put-find (item.key == 3) 3 e.few item items k;
  many = put-find (item.key == 4) 4 e.many item items k;
  explicit_zero = put-find (item.key == 5) 5 e.explicit_zero item items k;
  explicit_one = put-find (item.key == 6) 6 e.explicit_one item items k;
}

-- a value, or else nothing, is the value
option_or-none : (value : Option PackedValue) → option_or value None ≡ value
option_or-none None = refl
option_or-none (Some value) = refl

-- no items leave the values as they are
or_first-nil : (e : Elements PackedValue) → or_first e [] ≡ e
or_first-nil e = λ k. record {
  other = e.other;
  zero = option_or-none e.zero k;
  one = option_or-none e.one k;
  two = option_or-none e.two k;
  few = option_or-none e.few k;
  many = option_or-none e.many k;
  explicit_zero = option_or-none e.explicit_zero k;
  explicit_one = option_or-none e.explicit_one k;
}

-- the walk puts the first item of each key whose value is absent
with_items-first : (e : Elements PackedValue) (items : List PackedItem) → with_items e items ≡ or_first e items
with_items-first e [] = sym (or_first-nil e)
with_items-first e (item ∷ items) = with_items-first (with_item e item) items ∙ or_first-cons e item items

-- from the default alone it gives the values by key
pub walked : (default : PackedValue) (items : List PackedItem)
    → with_items (only_other default) items ≡ elements_of (record { default = default; items = Some items })
walked default items = with_items-first (only_other default) items

-- ---- a value that is put at one key

-- a value that is put is also put in the view of packed values
pub put-map : {A B : Type 0} (f : A → B) (place new : Option A) (value : A) → new ≡ option_or place (Some value)
    → option_map f new ≡ option_or (option_map f place) (Some (f value))
put-map f None new value h = (λ k. option_map f (h k))
put-map f (Some old) new value h = (λ k. option_map f (h k))

-- for each of the seven keys: putting a value at the key is a step of the walk

pub put_zero : (e : Elements PackedValue) (value : PackedValue) (new : Option PackedValue) → new ≡ option_or e.zero (Some value)
    → record e { zero = new } ≡ with_item e (record { key = 0; value = value })
put_zero e value new h = λ k. record e { zero = h k }

pub put_one : (e : Elements PackedValue) (value : PackedValue) (new : Option PackedValue) → new ≡ option_or e.one (Some value)
    → record e { one = new } ≡ with_item e (record { key = 1; value = value })
put_one e value new h = λ k. record e { one = h k }

pub put_two : (e : Elements PackedValue) (value : PackedValue) (new : Option PackedValue) → new ≡ option_or e.two (Some value)
    → record e { two = new } ≡ with_item e (record { key = 2; value = value })
put_two e value new h = λ k. record e { two = h k }

pub put_few : (e : Elements PackedValue) (value : PackedValue) (new : Option PackedValue) → new ≡ option_or e.few (Some value)
    → record e { few = new } ≡ with_item e (record { key = 3; value = value })
put_few e value new h = λ k. record e { few = h k }

pub put_many : (e : Elements PackedValue) (value : PackedValue) (new : Option PackedValue) → new ≡ option_or e.many (Some value)
    → record e { many = new } ≡ with_item e (record { key = 4; value = value })
put_many e value new h = λ k. record e { many = h k }

pub put_explicit_zero : (e : Elements PackedValue) (value : PackedValue) (new : Option PackedValue)
    → new ≡ option_or e.explicit_zero (Some value)
    → record e { explicit_zero = new } ≡ with_item e (record { key = 5; value = value })
put_explicit_zero e value new h = λ k. record e { explicit_zero = h k }

pub put_explicit_one : (e : Elements PackedValue) (value : PackedValue) (new : Option PackedValue)
    → new ≡ option_or e.explicit_one (Some value)
    → record e { explicit_one = new } ≡ with_item e (record { key = 6; value = value })
put_explicit_one e value new h = λ k. record e { explicit_one = h k }
