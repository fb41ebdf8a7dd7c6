-- Ranges that are written and read again.
use Rattle.std.proofs.Common.{◌≡◌, ℕ, List, [], ◌∷◌, ◌==◌, ◌⊎◌, ◌||◌, Bool, true, false, refl, sym, subst, ap, ◌∙◌, inl, inr, Option}
use Rattle.std.proofs.Common.{Some, None, Ok, Err, option_map, if◌then◌else◌, Ordering, Less, Equal, Greater, is_eq, nat_cmp}
use Rattle.std.proofs.lemmas.Bool.{eqb-true}
use Rattle.std.proofs.lemmas.Cmp.{nat_list_cmp_total, tied_itself}
use Rattle.std.proofs.lemmas.Map.Text.{is_eq-slice_cmp}
use Rattle.std.proofs.lemmas.Slice.Eq.{bytes_eq-Decides}
use Rattle.std.specs.Cmp.Lexicographic.{slice_cmp}
use Rattle.std.specs.List.Sorted.{IsStrictlySortedBy}
use Rattle.std.specs.Ordering.{match_ordering}
use Rattle.plural_base.specs.declared.json.error.JsonError.TheVariants.{Float, RangeKey, RangeValue}
use Rattle.plural_base.specs.declared.ranges.PluralRanges.{PluralRanges}
use Rattle.plural_base.specs.declared.category.raw.RawPluralCategory.{RawPluralCategory}
use Rattle.plural_base.specs.Ranges.{at, each, put_at, Range, range_named, range_text, category_at, no_ranges, with_range}
use Rattle.plural_base.specs.Categories.{raw_number}
use Rattle.plural_base.specs.RangesJson.{AreMembersOf, IsJsonOfRanges, category_meant, keys_in, members_meant, name_json, object_under}
use Rattle.plural_base.specs.RangesJson.{ranges_of_json, ranges_meant}
use Rattle.plural_base.specs.Json.{◌>>=◌, there_or}
use Rattle.serde_json.specs.Data.{Data, object, Members, no_members, member}
use Rattle.serde_json.specs.Find.{get_member}
use Rattle.serde_json.specs.Written.{has_float, members_have_float}
use Rattle.plural_base.proofs.pairs.RangeMembers.{Below, InOrder, wanted, wanted_of, wanted_at}
use Rattle.plural_base.proofs.pairs.RangeNames.{category_named_as, range_named_as, range_named_is}
use Rattle.plural_base.proofs.encoding.RawCategories.{at-each, at-put_at, by_category, same_number, same_things}

-- ---- Members in the order of their keys

-- nothing is found under a text that is below all keys
absent : (text : List ℕ) (ms : Members) → Below text (keys_in ms) → get_member text ms ≡ None
absent text no_members h = refl
absent text (member k d ms) h = ap (λ o. match_ordering o (get_member text ms) (Some d) (get_member text ms)) h.0 ∙ absent text ms h.1

-- the value of the first member is found under its key
here : (key : List ℕ) (d : Data) (ms : Members) → get_member key (member key d ms) ≡ Some d
here key d ms = ap (λ o. match_ordering o (get_member key ms) (Some d) (get_member key ms)) (tied_itself nat_list_cmp_total key)

-- what equals a key below others is below them
same_below : (text key : List ℕ) (keys : List (List ℕ)) → slice_cmp nat_cmp text key ≡ Equal → Below key keys → Below text keys
same_below text key [] is h = tt
same_below text key (y ∷ ys) is h = (nat_list_cmp_total.congr text key y is ∙ h.0, same_below text key ys is h.1)

-- what is found after a member is found with it
later : (o : Ordering) (text key : List ℕ) (d e : Data) (ms : Members) → slice_cmp nat_cmp text key ≡ o → Below key (keys_in ms)
    → get_member text ms ≡ Some e
    → match_ordering o (get_member text ms) (Some d) (get_member text ms) ≡ Some e
later Less text key d e ms is below h = h
later Equal text key d e ms is below h = absurd (let none = absent text ms (same_below text key (keys_in ms) is below) in cc)
later Greater text key d e ms is below h = h

-- ---- Each member is a range that has a category

-- a member is the text of a pair and the name of the pair's category
record IsEntry (ranges : PluralRanges) (key : List ℕ) (d : Data) : Type 0 where
  pub start : RawPluralCategory
  pub end : RawPluralCategory
  pub category : RawPluralCategory
  pub key_is : key ≡ range_text start end
  pub data_is : d ≡ name_json category
  pub category_is : category_at ranges start end ≡ Some category

-- one value is found under a text
same_data : (x : Option Data) (d e : Data) → x ≡ Some d → x ≡ Some e → d ≡ e
same_data x d e first second = cc

module _ (ranges : PluralRanges) where
  -- a member under the text of a pair is that pair's
  entry_at : (key : List ℕ) (d : Data) (range : Range) → range_named key ≡ Some range → (c : Option RawPluralCategory)
      → category_at ranges range.0 range.1 ≡ c → wanted ranges key ≡ Some d
      → IsEntry ranges key d
  entry_at key d range is None none h =
      absurd (let gone : wanted ranges key ≡ None = ap (wanted_of ranges) is ∙ ap (option_map name_json) none in cc)
  entry_at key d range is (Some c) some h =
      record {
        start = range.0;
        end = range.1;
        category = c;
        key_is = range_named_is key range is;
        data_is = same_data (wanted ranges key) d (name_json c) h (ap (wanted_of ranges) is ∙ ap (option_map name_json) some);
        category_is = some;
      }

  -- a member that has the wanted category is a pair's
  entry : (key : List ℕ) (d : Data) (o : Option Range) → range_named key ≡ o → wanted ranges key ≡ Some d → IsEntry ranges key d
  entry key d None is h = absurd (let gone : wanted ranges key ≡ None = ap (wanted_of ranges) is in cc)
  entry key d (Some range) is h = entry_at key d range is (category_at ranges range.0 range.1) refl h

  -- all members are so
  abbrev AreEntries : Members → Type 0
  AreEntries no_members = Unit {0}
  AreEntries (member k d ms) = IsEntry ranges k d × AreEntries ms

  -- in members that have what is wanted each is a pair's
  all_entries : (ms : Members) → InOrder ms → ((text : List ℕ) (d : Data) → get_member text ms ≡ Some d → wanted ranges text ≡ Some d)
      → AreEntries ms
  unfolding IsStrictlySortedBy
  all_entries no_members ordered h = tt
  all_entries (member k d ms) ordered h = (
    entry k d (range_named k) refl (h k d (here k d ms)),
    all_entries ms ordered.1 (λ text e found. h text e (later (slice_cmp nat_cmp text k) text k d e ms refl ordered.0 found)),
  )

  -- names of categories hold no float
  no_float : (ms : Members) → AreEntries ms → members_have_float ms ≡ false
  no_float no_members h = refl
  no_float (member k d ms) h = ap (λ v. has_float v || members_have_float ms) h.0.data_is ∙ no_float ms h.1

-- ---- A table with one pair more

-- a number equals itself
same_test : (c : RawPluralCategory) → (raw_number c == raw_number c) ≡ true
same_test = by_category (λ c. (raw_number c == raw_number c) ≡ true) refl refl refl refl refl refl

module _ (acc : PluralRanges) (start end category : RawPluralCategory) where
  -- a pair has the category that it was given last
  with_here : category_at (with_range acc start end category) start end ≡ Some category
  with_here =
      ap (λ row. at row end) (at-put_at acc start (put_at (at acc start) end (Some category)) start)
      ∙ ap (λ b. at (if b then put_at (at acc start) end (Some category) else at acc start) end) (same_test start)
      ∙ at-put_at (at acc start) end (Some category) end
      ∙ ap (λ b. if b then Some category else at (at acc start) end) (same_test end)

  module _ (s e : RawPluralCategory) (P : Option RawPluralCategory → Type 0) (same : s ≡ start → e ≡ end → P (Some category))
      (other : P (category_at acc s e)) where
    -- at an end of its row: the new category at the pair's own, else what was there
    in_row : (b : Bool) → (raw_number e == raw_number end) ≡ b → s ≡ start → P (if b then Some category else at (at acc start) e)
    in_row true is start_is = same start_is (same_number e end (eqb-true _ _ is))
    in_row false is start_is = subst (λ r. P (at (at acc r) e)) start_is other

    -- in a row: the changed one at the pair's start, else what was there
    at_row : (b : Bool) → (raw_number s == raw_number start) ≡ b
        → P (at (if b then put_at (at acc start) end (Some category) else at acc s) e)
    at_row true is =
        subst P (sym (at-put_at (at acc start) end (Some category) e))
        (in_row (raw_number e == raw_number end) refl (same_number s start (eqb-true _ _ is)))
    at_row false is = other

    -- what holds of the new category at its pair, and of what was there at the others, holds
    -- everywhere
    with_any : P (category_at (with_range acc start end category) s e)
    with_any =
        subst (λ row. P (at row e)) (sym (at-put_at acc start (put_at (at acc start) end (Some category)) s))
        (at_row (raw_number s == raw_number start) refl)

-- without pairs none has a category
none_at : (s e : RawPluralCategory) → category_at no_ranges s e ≡ None
none_at s e = ap (λ row. at row e) (at-each (λ start. each (λ end. None)) s) ∙ at-each (λ end. None) e

-- ---- Reading

module _ (ranges : PluralRanges) where
  -- a pair is read already, or its member is still to come
  abbrev Settled : PluralRanges → Members → RawPluralCategory → RawPluralCategory → Type 0
  Settled acc ms s e = (category_at acc s e ≡ category_at ranges s e) ⊎ ((d : Data) × (get_member (range_text s e) ms ≡ Some d))

  -- if no members remain, what is settled is read
  is_read : (acc : PluralRanges) (s e : RawPluralCategory) → Settled acc no_members s e → category_at acc s e ≡ category_at ranges s e
  is_read acc s e (inl is) = is
  is_read acc s e (inr there) = absurd (let found = there.1 in cc)

  module _ (acc : PluralRanges) (k : List ℕ) (d : Data) (ms : Members) (h : IsEntry ranges k d) (s e : RawPluralCategory) where
    -- the table with this member's pair
    abbrev after : PluralRanges
    after = with_range acc h.start h.end h.category

    -- the member under a pair's text gives the pair its category
    same_text : k ≡ range_text s e → category_at after s e ≡ category_at ranges s e
    same_text is =
        let named : ◌≡◌ {A = Option Range} (Some (s, e)) (Some (h.start, h.end)) = sym (range_named_as s e)
        ∙ ap range_named (sym is ∙ h.key_is) ∙ range_named_as h.start h.end in
        let pair : ◌≡◌ {A = Range} (s, e) (h.start, h.end) = cc in
        ap (λ (r : Range). category_at after r.0 r.1) pair ∙ with_here acc h.start h.end h.category ∙ sym h.category_is
        ∙ sym (ap (λ (r : Range). category_at ranges r.0 r.1) pair)

    -- a pair whose member is still to come is read with this one or comes after it
    comes : (o : Ordering) (v : Data) → slice_cmp nat_cmp (range_text s e) k ≡ o
        → match_ordering o (get_member (range_text s e) ms) (Some d) (get_member (range_text s e) ms) ≡ Some v
        → Settled after ms s e
    comes Less v is found = inr (v, found)
    comes Equal v is found =
        inl (same_text (sym ((bytes_eq-Decides (range_text s e) k).0 (sym (is_eq-slice_cmp (range_text s e) k) ∙ ap is_eq is))))
    comes Greater v is found = inr (v, found)

    -- what is settled before a member is settled after it
    settled_after : Settled acc (member k d ms) s e → Settled after ms s e
    settled_after (inl is) =
        inl (with_any acc h.start h.end h.category s e (λ o. o ≡ category_at ranges s e)
        (λ start_is end_is. sym (ap (λ x. category_at ranges x e) start_is ∙ ap (category_at ranges h.start) end_is ∙ h.category_is)) is)
    settled_after (inr there) = comes (slice_cmp nat_cmp (range_text s e) k) there.0 refl there.1

  -- a member gives its range its category
  one_read : (acc : PluralRanges) (k : List ℕ) (d : Data) (ms : Members) (h : IsEntry ranges k d)
      → members_meant acc (member k d ms) ≡ members_meant (with_range acc h.start h.end h.category) ms
  one_read acc k d ms h =
      ap (λ r. there_or RangeKey r >>= λ range.
      (category_meant d >>= λ category. members_meant (with_range acc range.0 range.1 category) ms)) (ap range_named h.key_is
      ∙ range_named_as h.start h.end)
      ∙ ap (λ c. c >>= λ category. members_meant (with_range acc h.start h.end category) ms)
      (ap category_meant h.data_is ∙ ap (there_or RangeValue) (category_named_as h.category))

  -- members under which all pairs are settled are read as the ranges
  all_read : (ms : Members) (acc : PluralRanges) → AreEntries ranges ms → ((s e : RawPluralCategory) → Settled acc ms s e)
      → members_meant acc ms ≡ Ok ranges
  all_read no_members acc h settled =
      ap Ok (same_things acc ranges (λ s. same_things (at acc s) (at ranges s) (λ e. is_read acc s e (settled s e))))
  all_read (member k d ms) acc h settled =
      one_read acc k d ms h.0
      ∙ all_read ms (with_range acc h.0.start h.0.end h.0.category) h.1 (λ s e. settled_after acc k d ms h.0 s e (settled s e))

  module _ (ms : Members) (members : AreMembersOf ranges ms) where
    -- the members of ranges are pairs' members
    entries : AreEntries ranges ms
    entries = all_entries ranges ms members.ordered (λ text d found. sym (members.under text) ∙ found)

    -- each pair is settled before the first member: it has no category, or its member comes
    first : (s e : RawPluralCategory) (o : Option RawPluralCategory) → category_at ranges s e ≡ o → Settled no_ranges ms s e
    first s e None is = inl (none_at s e ∙ sym is)
    first s e (Some category) is =
        inr (name_json category, members.under (range_text s e) ∙ wanted_at ranges s e ∙ ap (option_map name_json) is)

    -- the object of the members stands for the ranges
    table_read : ranges_of_json (object_under (object ms)) ≡ Ok ranges
    table_read =
        ap (λ b. if b || false then Err Float else ranges_meant (object_under (object ms))) (no_float ranges ms entries)
        ∙ all_read ms no_ranges entries (λ s e. first s e (category_at ranges s e) refl)

-- what is written for ranges is read as the same ranges
pub written_read : (ranges : PluralRanges) (value : Data) → IsJsonOfRanges value ranges → ranges_of_json value ≡ Ok ranges
written_read ranges value h = ap ranges_of_json h.1 ∙ table_read ranges h.0 h.2
