-- The first bad item of a list of rules, which is looked for key by key.
use Rattle.std.proofs.Common.{◌≡◌, ◌≢◌, ◌↔◌, inl, inr, ℕ, zero, suc, ◌+◌, ◌<◌, ◌≤◌, List, [], ◌∷◌, ◌++◌, Option, Some, None, drop}
use Rattle.std.proofs.Common.{Result, Ok, Err, refl, sym, ap, ◌∙◌, subst, arith, append-nil}
use Rattle.std.specs.Prelude.{slice_get, MatchResult, IfOk, length}
use Rattle.std.proofs.lemmas.Bool.{cases_lt}
use Rattle.std.proofs.lemmas.List.{drop_more}
use Rattle.std.proofs.lemmas.Option.{slice_get_within, get_or_from_slice_get}
use Rattle.packed_list.specs.ListBytes.{ListBytes, HasFault}
use Rattle.packed_list.specs.declared.error.ListError.{ListError}
use Rattle.plural_runtime.specs.PackedRelations.{PackedRelation}
use Rattle.plural_base.specs.FiveRules.{FiveRules, rules_of}
use Rattle.plural_base.specs.RulesBytes.{keyed, rule_items, CanPackRule, CanPackRules, RulesBytes, RulesHaveOneEncoding}
use Rattle.plural_base.specs.RulesBytes.{IsKeyFrom, IsBadKey, FirstRuleFault, HasRulesFault}
use Rattle.plural_base.specs.Inner.KeyedItems.{HasOtherKey}
use Rattle.plural_base.specs.declared.rules.data.PluralRulesData.{PluralRulesData}
use Rattle.plural_base.specs.declared.rules.bytes.error.RulesBytesError.{RulesBytesError}
use Rattle.plural_base.specs.declared.rules.bytes.error.RulesBytesError.TheVariants as errors

-- ---- The items that are left

-- past the last item there is none
pub none_left : (items : List (List ℕ)) (place : ℕ) → slice_get items place ≡ None → drop place items ≡ []
none_left [] zero h = refl
none_left [] (suc place) h = refl
none_left (item ∷ items) zero h = absurd cc
none_left (item ∷ items) (suc place) h = none_left items place h

-- the item at a place is the first of those from there on
pub first_left : (items : List (List ℕ)) (place : ℕ) (item : List ℕ) → slice_get items place ≡ Some item
    → drop place items ≡ item ∷ drop (place + 1) items
first_left items place item h =
    drop_more items place [] (slice_get_within items place item h)
    ∙ ap (λ first. first ∷ drop (place + 1) items) (get_or_from_slice_get items place item [] h)

-- ---- The first item that is left

-- past the last item there is none with a key
pub none_has_key : (key : ℕ) (items : List (List ℕ)) (place : ℕ) → slice_get items place ≡ None → HasOtherKey key (drop place items)
none_has_key key items place h = subst (HasOtherKey key) (sym (none_left items place h)) tt

-- an item without a byte has no key
empty_has_none : (key : ℕ) (item : List ℕ) (others : List (List ℕ)) → length item ≡ 0 → HasOtherKey key (item ∷ others)
empty_has_none key [] others h = tt
empty_has_none key (first ∷ item) others h = absurd (omega arith)

-- so where it is the first that is left, that one has none
pub empty_has_no_key : (key : ℕ) (items : List (List ℕ)) (place : ℕ) (item : List ℕ) → slice_get items place ≡ Some item
    → length item ≡ 0 → HasOtherKey key (drop place items)
empty_has_no_key key items place item h empty =
    subst (HasOtherKey key) (sym (first_left items place item h)) (empty_has_none key item (drop (place + 1) items) empty)

-- the first byte of an item is its key
pub first_byte_left : (items : List (List ℕ)) (place : ℕ) (item : List ℕ) (first : ℕ) (bytes : List ℕ)
    → slice_get items place ≡ Some item → item ≡ first ∷ bytes → drop place items ≡ (first ∷ bytes) ∷ drop (place + 1) items
first_byte_left items place item first bytes h is =
    first_left items place item h ∙ ap (λ (all : List ℕ). all ∷ drop (place + 1) items) is

-- so where that is another, the first item that is left has another key
pub other_key : (key : ℕ) (items : List (List ℕ)) (place : ℕ) (item : List ℕ) (first : ℕ) (bytes : List ℕ)
    → slice_get items place ≡ Some item → item ≡ first ∷ bytes → first ≢ key → HasOtherKey key (drop place items)
other_key key items place item first bytes h is other =
    subst (HasOtherKey key) (sym (first_byte_left items place item first bytes h is)) other

-- ---- Keys

-- a good key is good one lower
good_before : (least key : ℕ) → IsKeyFrom (least + 1) key → IsKeyFrom least key
good_before least key is = (omega (arith, is.0), is.1)

-- the least key is good
least_good : (key : ℕ) → key ≤ 4 → IsKeyFrom key key
least_good key small = (omega arith, small)

-- no key is good once all five were asked for
none_good : (key : ℕ) → IsKeyFrom 5 key → ⊥
none_good key is = omega (arith, is.0, is.1)

-- so each is bad
all_bad : (key : ℕ) → IsBadKey 5 key
all_bad key = elim (cases_lt key 5) [ inl low ↦ inl low | inr high ↦ inr (omega arith) ]

-- ---- After all five keys

-- an item that is left after all five keys is bad by its key
left_over : (place first : ℕ) (bytes : List ℕ) (items : List (List ℕ)) (fault : Option RulesBytesError)
    → FirstRuleFault place 5 ((first ∷ bytes) ∷ items) fault ↔ (fault ≡ Some (errors.Key place))
left_over place first bytes items fault = (
  (λ h. elim h [
    | inl bad ↦ bad.1
    | inr good ↦ elim good [
      | inl refused ↦ absurd (none_good first refused.0)
      | inr taken ↦ absurd (none_good first taken.0)
    ]
  ]),
  (λ h. inl (all_bad first, h)),
)

-- without items there is no fault
pub nothing_left : (items : List (List ℕ)) (place : ℕ) (fault : Option RulesBytesError) → slice_get items place ≡ None
    → FirstRuleFault place 5 (drop place items) fault ↔ (fault ≡ None)
nothing_left items place fault h =
    subst (λ all. FirstRuleFault place 5 all fault ↔ (fault ≡ None)) (sym (none_left items place h)) ((λ is. is), (λ is. is))

-- an item without a byte is bad
empty_bad : (place : ℕ) (item : List ℕ) (others : List (List ℕ)) (fault : Option RulesBytesError) → length item ≡ 0
    → FirstRuleFault place 5 (item ∷ others) fault ↔ (fault ≡ Some (errors.ItemEmpty place))
empty_bad place [] others fault h = ((λ is. is), (λ is. is))
empty_bad place (first ∷ item) others fault h = absurd (omega arith)

-- so where it is the first that is left, it is the first bad one
pub empty_left : (items : List (List ℕ)) (place : ℕ) (item : List ℕ) (fault : Option RulesBytesError)
    → slice_get items place ≡ Some item → length item ≡ 0
    → FirstRuleFault place 5 (drop place items) fault ↔ (fault ≡ Some (errors.ItemEmpty place))
empty_left items place item fault h empty =
    subst (λ all. FirstRuleFault place 5 all fault ↔ (fault ≡ Some (errors.ItemEmpty place))) (sym (first_left items place item h))
    (empty_bad place item (drop (place + 1) items) fault empty)

-- any other is bad by its key
key_bad : (place : ℕ) (item : List ℕ) (others : List (List ℕ)) (fault : Option RulesBytesError) → 0 < length item
    → FirstRuleFault place 5 (item ∷ others) fault ↔ (fault ≡ Some (errors.Key place))
key_bad place [] others fault h = absurd (omega arith)
key_bad place (first ∷ item) others fault h = left_over place first item others fault

-- so where it is the first that is left, it is the first bad one by its key
pub key_left : (items : List (List ℕ)) (place : ℕ) (item : List ℕ) (fault : Option RulesBytesError)
    → slice_get items place ≡ Some item → 0 < length item
    → FirstRuleFault place 5 (drop place items) fault ↔ (fault ≡ Some (errors.Key place))
key_left items place item fault h long =
    subst (λ all. FirstRuleFault place 5 all fault ↔ (fault ≡ Some (errors.Key place))) (sym (first_left items place item h))
    (key_bad place item (drop (place + 1) items) fault long)

-- ---- One step after another

-- one agreement after another
pub then_iff : {A B C : Type 0} → (A ↔ B) → (B ↔ C) → (A ↔ C)
then_iff first second = ((λ a. second.0 (first.0 a)), (λ c. first.1 (second.1 c)))

-- ---- Rules have no bad item

-- no item is bad, wherever the first one is
abbrev HasNoFault : ℕ → List (List ℕ) → Type 0
HasNoFault least items = (place : ℕ) → FirstRuleFault place least items None

-- nor if a lower key may be first
lower : (least : ℕ) (items : List (List ℕ)) → HasNoFault (least + 1) items → HasNoFault least items
lower least [] h place = h place
lower least ([] ∷ items) h place = h place
lower least ((key ∷ bytes) ∷ items) h place = elim (h place) [
  | inl bad ↦ absurd (let e = bad.1 in cc)
  | inr good ↦ inr (elim good [
    | inl refused ↦ inl (good_before least key refused.0, refused.1)
    | inr taken ↦ inr (good_before least key taken.0, taken.1, taken.2)
  ])
]

-- nor with the item of a rule, if present, before them
with_rule : (key : ℕ) (rule : Option (List PackedRelation)) (items : List (List ℕ)) → key ≤ 4 → CanPackRule rule
    → HasNoFault (key + 1) items → HasNoFault key (keyed key rule ++ items)
with_rule key None items small can h = lower key items h
with_rule key (Some rule) items small can h = λ place. inr (inr (least_good key small, (rule, can), h (place + 1)))

-- so the items of rules have no fault
pub rules_have_none : (rules : FiveRules) → CanPackRules rules → HasNoFault 0 (rule_items rules)
rules_have_none rules can =
    let alone = with_rule 4 rules.many [] (omega arith) can.many (λ place. refl) in
    let many : HasNoFault 4 (keyed 4 rules.many) = subst (HasNoFault 4) (append-nil (keyed 4 rules.many)) alone in
    let few = with_rule 3 rules.few (keyed 4 rules.many) (omega arith) can.few many in
    let two = with_rule 2 rules.two (keyed 3 rules.few ++ keyed 4 rules.many) (omega arith) can.two few in
    let one = with_rule 1 rules.one (keyed 2 rules.two ++ (keyed 3 rules.few ++ keyed 4 rules.many)) (omega arith) can.one two in
    with_rule 0 rules.zero (keyed 1 rules.one ++ (keyed 2 rules.two ++ (keyed 3 rules.few ++ keyed 4 rules.many))) (omega arith)
    can.zero one

-- ---- What bytes are read as

-- what is read of items
abbrev Read : Type 0
Read = Result PluralRulesData RulesBytesError

-- it tells this fault of the first bad item, or that no item is bad
abbrev Tells : Read → Option RulesBytesError → Type 0
Tells read fault = MatchResult read (λ _. fault ≡ None) (λ found. fault ≡ Some found)

-- no item has a fault of lists
not_of_lists : (place least : ℕ) (items : List (List ℕ)) (fault : ListError) → FirstRuleFault place least items (Some (errors.List fault)) → ⊥
not_of_lists place least [] fault h = cc
not_of_lists place least ([] ∷ items) fault h = cc
not_of_lists place least ((key ∷ bytes) ∷ items) fault h = elim h [
  | inl bad ↦ let e = bad.1 in cc
  | inr good ↦ elim good [
    | inl refused ↦ let e = refused.1.2 in cc
    | inr taken ↦ not_of_lists (place + 1) (key + 1) items fault taken.2
  ]
]

-- a refusal is what is told
told : (read : Read) (fault : RulesBytesError) → Tells read (Some fault) → read ≡ Err fault
told (Ok rules) fault h = absurd cc
told (Err found) fault h = let same : fault ≡ found = cc in ap Err (sym same)

-- and the other way
telling : (read : Read) (fault : RulesBytesError) → read ≡ Err fault → Tells read (Some fault)
telling (Ok rules) fault h = absurd cc
telling (Err found) fault h = let same : fault ≡ found = cc in ap Some same

-- a fault of an item that is told of a list is one of its bytes
found_in : (bytes : List ℕ) (items : List (List ℕ)) (fault : RulesBytesError) → ListBytes items bytes
    → ((others : List (List ℕ)) → ListBytes others bytes → others ≡ items)
    → FirstRuleFault 0 0 items (Some fault) ↔ ((all : List (List ℕ)) × ListBytes all bytes × FirstRuleFault 0 0 all (Some fault))
found_in bytes items fault list one = (
  (λ h. (items, list, h)),
  (λ h. subst (λ all. FirstRuleFault 0 0 all (Some fault)) (one h.0 h.1) h.2),
)

-- so it is what is read
item_refused : (bytes : List ℕ) (items : List (List ℕ)) (read : Read) (fault : RulesBytesError) → ListBytes items bytes
    → ((others : List (List ℕ)) → ListBytes others bytes → others ≡ items)
    → ((fault : Option RulesBytesError) → FirstRuleFault 0 0 items fault ↔ Tells read fault)
    → (read ≡ Err fault) ↔ ((all : List (List ℕ)) × ListBytes all bytes × FirstRuleFault 0 0 all (Some fault))
item_refused bytes items read fault list one tells =
    let found = found_in bytes items fault list one in (
      (λ h. found.0 ((tells (Some fault)).1 (telling read fault h))),
      (λ h. told read fault ((tells (Some fault)).0 (found.1 h))),
    )

-- what is read of a list is refused with the fault of its first bad item
pub items_refused : (bytes : List ℕ) (items : List (List ℕ)) (read : Read) → ListBytes items bytes
    → ((others : List (List ℕ)) → ListBytes others bytes → others ≡ items) → ((fault : ListError) → HasFault bytes fault → ⊥)
    → ((fault : Option RulesBytesError) → FirstRuleFault 0 0 items fault ↔ Tells read fault)
    → (fault : RulesBytesError) → (read ≡ Err fault) ↔ HasRulesFault bytes fault
items_refused bytes items read list one no_fault tells (errors.List fault) = (
  (λ h. absurd (not_of_lists 0 0 items fault ((tells (Some (errors.List fault))).1 (telling read (errors.List fault) h)))),
  (λ h. absurd (no_fault fault h)),
)
items_refused bytes items read list one no_fault tells (errors.ItemEmpty place) =
    item_refused bytes items read (errors.ItemEmpty place) list one tells
items_refused bytes items read list one no_fault tells (errors.Key place) = item_refused bytes items read (errors.Key place) list one tells
items_refused bytes items read list one no_fault tells (errors.Rule place fault) =
    item_refused bytes items read (errors.Rule place fault) list one tells

-- rules that are read are in the bytes
pub are_read : (bytes : List ℕ) (items : List (List ℕ)) (read : Read) → ListBytes items bytes
    → IfOk read (λ rules. CanPackRules (rules_of rules)) → IfOk read (λ rules. items ≡ rule_items (rules_of rules))
    → IfOk read (λ rules. RulesBytes (rules_of rules) bytes)
are_read bytes items (Ok rules) list can same = record { can_pack = can; packed = subst (λ all. ListBytes all bytes) same list }
are_read bytes items (Err found) list can same = tt

-- and the bytes of rules are read as these
pub read_again : RulesHaveOneEncoding → (bytes : List ℕ) (items : List (List ℕ)) (read : Read) (rules : FiveRules)
    → ((others : List (List ℕ)) → ListBytes others bytes → others ≡ items)
    → ((fault : Option RulesBytesError) → FirstRuleFault 0 0 items fault ↔ Tells read fault)
    → IfOk read (λ found. RulesBytes (rules_of found) bytes) → RulesBytes rules bytes
    → MatchResult read (λ found. rules_of found ≡ rules) (λ _. ⊥)
read_again law bytes items (Ok found) rules one tells are h = (law (rules_of found) rules bytes bytes are h).0 refl
read_again law bytes items (Err fault) rules one tells are h =
    let none = subst (λ all. FirstRuleFault 0 0 all None) (one (rule_items rules) h.packed) (rules_have_none rules h.can_pack 0) in
    let e = (tells None).0 none in cc
