-- Outlines: of an object that a member was put into, and what is found in them.
use Rattle.std.proofs.Common.{◌≡◌, ℕ, List, Option, Some, None, Ordering, Less, Equal, Greater, nat_cmp, false, true≢false, refl}
use Rattle.std.proofs.Common.{sym, ap, ◌∙◌}
use Rattle.std.proofs.lemmas.Cmp.{nat_list_cmp_total, tied_itself}
use Rattle.std.proofs.lemmas.Map.Text.{is_eq-slice_cmp}
use Rattle.std.proofs.lemmas.Slice.Eq.{bytes_eq-Decides}
use Rattle.std.specs.Cmp.Lexicographic.{slice_cmp}
use Rattle.std.specs.Ordering.{is_eq, match_ordering, ordering_reverse}
use Rattle.std.specs.Prelude.{⊤, option_and_then}
use Rattle.plural_documents.specs.Outlines.{outline, outline_members, with_member}
use Rattle.plural_documents.specs.Inner.OutlineSteps.{members_by, portion_below, put_portion}
use Rattle.plural_documents.specs.declared.outline.Portion.{Portion}
use Rattle.plural_documents.specs.declared.outline.Portion.TheVariants as kept
use Rattle.serde_json.specs.Data.{Data, null, boolean, number, string, array, object, Members, no_members, member, put}
use Rattle.serde_json.specs.Find.{get_member}

-- ---- Members in the order of their keys

abbrev pub order : List ℕ → List ℕ → Ordering
order = slice_cmp nat_cmp

-- the key is before those of all members
abbrev pub IsBefore : List ℕ → Members → Type 0
IsBefore key no_members = ⊤
IsBefore key (member next value ms) = (order key next ≡ Less) × IsBefore key ms

abbrev pub AreSorted : Members → Type 0
AreSorted no_members = ⊤
AreSorted (member key value ms) = IsBefore key ms × AreSorted ms

-- what is before the first key is before the others
before_all : (key next : List ℕ) (ms : Members) → order key next ≡ Less → IsBefore next ms → IsBefore key ms
before_all key next no_members less before = tt
before_all key next (member other value ms) less before =
    (nat_list_cmp_total.trans key next other less before.0, before_all key next ms less before.1)

-- two keys that are ordered the same are the same
pub same_key : (one other : List ℕ) → order one other ≡ Equal → one ≡ other
same_key one other equal = (bytes_eq-Decides one other).0 (sym (is_eq-slice_cmp one other) ∙ ap is_eq equal)

itself : (key : List ℕ) → order key key ≡ Equal
itself key = tied_itself nat_list_cmp_total key

-- the other way about
turned : (one other : List ℕ) → order one other ≡ Greater → order other one ≡ Less
turned one other greater = nat_list_cmp_total.antisymm other one ∙ ap ordering_reverse greater

-- the arms of `put`
abbrev pub put_in : List ℕ → Data → List ℕ → Data → Members → Ordering → Members
put_in key value next old ms o =
    match_ordering o (member key value (member next old ms)) (member next value ms) (member next old (put key value ms))

before_put : (first key : List ℕ) (value : Data) (ms : Members) → order first key ≡ Less → IsBefore first ms
    → IsBefore first (put key value ms)
before_put first key value no_members less before = (less, tt)
before_put first key value (member next old ms) less before =
    by (order key next) (before_put first key value ms less before.1)
  where
    by : (o : Ordering) → IsBefore first (put key value ms) → IsBefore first (put_in key value next old ms o)
    by Less further = (less, before)
    by Equal further = before
    by Greater further = (before.0, further)

pub sorted_put : (key : List ℕ) (value : Data) (ms : Members) → AreSorted ms → AreSorted (put key value ms)
sorted_put key value no_members sorted = (tt, tt)
sorted_put key value (member next old ms) sorted =
    by (order key next) refl (sorted_put key value ms sorted.1)
  where
    by : (o : Ordering) → order key next ≡ o → AreSorted (put key value ms) → AreSorted (put_in key value next old ms o)
    by Less is further = ((is, before_all key next ms is sorted.0), sorted)
    by Equal is further = sorted
    by Greater is further = (before_put next key value ms (turned key next is) sorted.0, further)

-- ---- A member is put

-- what is kept of the first member is put before the others
put_before : (key : List ℕ) (value : Option Data) (ms : Members) → IsBefore key ms → with_member key value ms ≡ put_portion key value ms
put_before key None ms before = refl
put_before key (Some value) no_members before = refl
put_before key (Some value) (member next old ms) before = rw before.0 refl

-- after a member that stays
passed : (key next : List ℕ) (value old : Option Data) (ms : Members) → order key next ≡ Greater
    → with_member next old (put_portion key value ms) ≡ put_portion key value (with_member next old ms)
passed key next None old ms is = refl
passed key next (Some value) None ms is = refl
passed key next (Some value) (Some old) ms is = rw is refl

with_before : (first key : List ℕ) (value : Option Data) (ms : Members) → order first key ≡ Less → IsBefore first ms
    → IsBefore first (with_member key value ms)
with_before first key None ms less before = before
with_before first key (Some value) ms less before = (less, before)

-- another key is looked up among the other members
found_after : (key next : List ℕ) (value : Option Data) (ms : Members) (o : Ordering) → is_eq o ≡ false → order key next ≡ o
    → get_member key (with_member next value ms) ≡ get_member key ms
found_after key next None ms o other is = refl
found_after key next (Some value) ms Less other is = rw is refl
found_after key next (Some value) ms Equal other is = absurd (true≢false other)
found_after key next (Some value) ms Greater other is = rw is refl

module _ (C : Type 0) (keeps : C → List ℕ → Portion C) where
  -- by a choice there is always something that is kept
  pub some_kept : (choice : C) (value : Data) → (read : Data) × (outline keeps (kept.Members choice) value ≡ Some read)
  some_kept choice null = (null, refl)
  some_kept choice (boolean truth) = (boolean truth, refl)
  some_kept choice (number n) = (number n, refl)
  some_kept choice (string text) = (string text, refl)
  some_kept choice (array items) = (array items, refl)
  some_kept choice (object ms) = (object (outline_members keeps choice ms), refl)

  -- in place of what was kept of the key before
  replaced : (key : List ℕ) (kept : Portion C) (value old : Data) (ms : Members)
      → with_member key (outline keeps kept value) ms
      ≡ put_portion key (outline keeps kept value) (with_member key (outline keeps kept old) ms)
  replaced key kept.Whole value old ms = rw (itself key) refl
  replaced key kept.Nothing value old ms = refl
  replaced key (kept.Members choice) value old ms =
      rw ((some_kept choice value).1, (some_kept choice old).1, itself key) refl

  -- nothing is kept of anything
  nothing_kept : (found : Option Data) → option_and_then (outline keeps kept.Nothing) found ≡ None
  nothing_kept None = refl
  nothing_kept (Some value) = refl

  found_at : (key : List ℕ) (kept : Portion C) (value : Data) (ms : Members) (found : Option Data)
      → get_member key ms ≡ option_and_then (outline keeps kept) found
      → get_member key (with_member key (outline keeps kept value) ms) ≡ outline keeps kept value
  found_at key kept.Whole value ms found others = rw (itself key) refl
  found_at key kept.Nothing value ms found others = others ∙ nothing_kept found
  found_at key (kept.Members choice) value ms found others =
      rw ((some_kept choice value).1, itself key) refl

  module _ (choice : C) where
    before_outline : (first : List ℕ) (ms : Members) → IsBefore first ms → IsBefore first (outline_members keeps choice ms)
    before_outline first no_members before = tt
    before_outline first (member key value ms) before =
        with_before first key (outline keeps (keeps choice key) value) _ before.0 (before_outline first ms before.1)

    -- the outline of members that one was put into
    pub outline_put : (key : List ℕ) (value : Data) (ms : Members) → AreSorted ms
        → outline_members keeps choice (put key value ms)
        ≡ put_portion key (outline keeps (keeps choice key) value) (outline_members keeps choice ms)
    outline_put key value no_members sorted = put_before key (outline keeps (keeps choice key) value) no_members tt
    outline_put key value (member next old ms) sorted =
        by (order key next) refl (outline_put key value ms sorted.1)
      where
        by : (o : Ordering) → order key next ≡ o
            → outline_members keeps choice (put key value ms)
            ≡ put_portion key (outline keeps (keeps choice key) value) (outline_members keeps choice ms)
            → outline_members keeps choice (put_in key value next old ms o)
            ≡ put_portion key (outline keeps (keeps choice key) value) (outline_members keeps choice (member next old ms))
        by Less is further =
            put_before key (outline keeps (keeps choice key) value) (outline_members keeps choice (member next old ms))
            (before_outline key (member next old ms) (is, before_all key next ms is sorted.0))
        by Equal is further =
            rw (same_key key next is) (replaced next (keeps choice next) value old (outline_members keeps choice ms))
        by Greater is further =
            ap (with_member next (outline keeps (keeps choice next) old)) further
            ∙ passed key next (outline keeps (keeps choice key) value) (outline keeps (keeps choice next) old)
            (outline_members keeps choice ms) is

    -- ---- What is found

    -- under a key stands what is kept of what stands there in the whole
    pub found_kept : (key : List ℕ) (ms : Members)
        → get_member key (outline_members keeps choice ms) ≡ option_and_then (outline keeps (keeps choice key)) (get_member key ms)
    found_kept key no_members = refl
    found_kept key (member next value ms) = by (order key next) refl (found_kept key ms)
      where
        by : (o : Ordering) → order key next ≡ o
            → get_member key (outline_members keeps choice ms) ≡ option_and_then (outline keeps (keeps choice key)) (get_member key ms)
            → get_member key (outline_members keeps choice (member next value ms))
            ≡ option_and_then (outline keeps (keeps choice key)) (match_ordering o (get_member key ms) (Some value) (get_member key ms))
        by Less is further =
            found_after key next (outline keeps (keeps choice next) value) (outline_members keeps choice ms) Less refl is ∙ further
        by Equal is further =
            rw (← same_key key next is)
            (found_at key (keeps choice key) value (outline_members keeps choice ms) (get_member key ms) further)
        by Greater is further =
            found_after key next (outline keeps (keeps choice next) value) (outline_members keeps choice ms) Greater refl is ∙ further

  -- ---- With or without a sieve

  -- what is kept of a value is put among what was found
  pub members_put : (sieve : Option C) (key : List ℕ) (value : Data) (ms found : Members) → AreSorted ms
      → members_by keeps sieve ms ≡ found
      → members_by keeps sieve (put key value ms) ≡ put_portion key (outline keeps (portion_below keeps sieve key) value) found
  members_put None key value ms found sorted so_far = ap (put key value) so_far
  members_put (Some choice) key value ms found sorted so_far =
      outline_put choice key value ms sorted ∙ ap (put_portion key (outline keeps (keeps choice key) value)) so_far
