-- The members that are put for ranges are theirs, in the order of their keys.
use Rattle.std.proofs.Common.{◌≡◌, ℕ, List, [], ◌∷◌, ◌⊎◌, Bool, true, false, true≢false, refl, sym, subst, ap, ◌∙◌, inl, inr, fold}
use Rattle.std.proofs.Common.{Option, Some, None, option_map, bytes_eq, Ordering, Less, Equal, Greater, nat_cmp}
use Rattle.std.proofs.lemmas.Cmp.{nat_list_cmp_total}
use Rattle.std.proofs.lemmas.Slice.Eq.{bytes_eq-Decides}
use Rattle.std.specs.Cmp.Lexicographic.{slice_cmp}
use Rattle.std.specs.List.{AllByRecursion}
use Rattle.std.specs.List.Sorted.{IsStrictlySortedBy}
use Rattle.std.specs.Option.{option_and_then}
use Rattle.std.specs.Ordering.{match_ordering, ordering_reverse}
use Rattle.plural_base.specs.declared.ranges.PluralRanges.{PluralRanges}
use Rattle.plural_base.specs.declared.category.raw.RawPluralCategory.{RawPluralCategory}
use Rattle.plural_base.specs.Categories.{all_raw_categories}
use Rattle.plural_base.specs.Ranges.{Range, range_named, range_text, category_at}
use Rattle.plural_base.specs.RangesJson.{AreMembersOf, category_under, keys_in, name_json}
use Rattle.plural_base.specs.Inner.JsonSteps.{put_range, put_row, range_members}
use Rattle.serde_json.specs.Data.{Data, Members, no_members, member, put}
use Rattle.serde_json.specs.Find.{get_member}
use Rattle.serde_json.proofs.Views.{get_member-put, get_member-put_other}
use Rattle.plural_base.proofs.pairs.RangeNames.{range_named_as, range_named_is}
use Rattle.plural_base.proofs.encoding.RawCategories.{by_category}

-- ---- Folds

-- what each step keeps
pub fold_keeps : {A B : Type 0} (Q : B → Type 0) (f : B → A → B) → ((b : B) (x : A) → Q b → Q (f b x)) → (xs : List A) (b : B) → Q b
    → Q (fold f b xs)
fold_keeps Q f keeps [] b q = q
fold_keeps Q f keeps (x ∷ xs) b q = fold_keeps Q f keeps xs (f b x) (keeps b x q)

-- the list contains it
abbrev pub In : {A : Type 0} → A → List A → Type 0
In x [] = ⊥
In x (y ∷ ys) = (y ≡ x) ⊎ In x ys

-- what one of the steps gives
pub fold_gives : {A B : Type 0} (R Q : B → Type 0) (f : B → A → B) (x : A) → ((b : B) (y : A) → R b → R (f b y))
    → ((b : B) (y : A) → Q b → Q (f b y)) → ((b : B) → R b → Q (f b x))
    → (xs : List A) → In x xs → (b : B) → R b → Q (fold f b xs)
fold_gives R Q f x stays keeps gives [] there b r = absurd there
fold_gives R Q f x stays keeps gives (y ∷ ys) (inl same) b r =
    fold_keeps Q f keeps ys (f b y) (subst (λ z. Q (f b z)) (sym same) (gives b r))
fold_gives R Q f x stays keeps gives (y ∷ ys) (inr there) b r = fold_gives R Q f x stays keeps gives ys there (f b y) (stays b y r)

-- each of the six is in their list
every : (c : RawPluralCategory) → In c all_raw_categories
every =
    by_category (λ c. In c all_raw_categories) (inl refl) (inr (inl refl)) (inr (inr (inl refl))) (inr (inr (inr (inl refl))))
    (inr (inr (inr (inr (inl refl)))))
    (inr (inr (inr (inr (inr (inl refl))))))

-- ---- The order of keys

-- the key is below all of these
abbrev pub Below : List ℕ → List (List ℕ) → Type 0
Below k keys = AllByRecursion (λ y. slice_cmp nat_cmp k y ≡ Less) keys

-- the keys of the members ascend
abbrev pub InOrder : Members → Type 0
InOrder ms = IsStrictlySortedBy (slice_cmp nat_cmp) (keys_in ms)

-- what is below the first of keys that ascend is below all
below_all : (k l : List ℕ) (keys : List (List ℕ)) → slice_cmp nat_cmp k l ≡ Less → Below l keys → Below k keys
below_all k l [] below h = tt
below_all k l (y ∷ ys) below h = (nat_list_cmp_total.trans k l y below h.0, below_all k l ys below h.1)

module _ (k : List ℕ) (d : Data) where
  -- a key below the members stays below them after one more is put, by where that one goes
  below_put_at : (o : Ordering) (first l : List ℕ) (e : Data) (ms : Members) → slice_cmp nat_cmp first k ≡ Less
      → Below first (keys_in (member l e ms)) → Below first (keys_in (put k d ms))
      → Below first (keys_in (match_ordering o (member k d (member l e ms)) (member l d ms) (member l e (put k d ms))))
  below_put_at Less first l e ms below h later = (below, h)
  below_put_at Equal first l e ms below h later = h
  below_put_at Greater first l e ms below h later = (h.0, later)

  -- a key below the members and below a further one is below all of them
  below_put : (first : List ℕ) (ms : Members) → slice_cmp nat_cmp first k ≡ Less → Below first (keys_in ms)
      → Below first (keys_in (put k d ms))
  below_put first no_members below h = (below, tt)
  below_put first (member l e ms) below h = below_put_at (slice_cmp nat_cmp k l) first l e ms below h (below_put first ms below h.1)

  -- keys still ascend after a member is put, by where it goes
  order_put_at : (o : Ordering) (l : List ℕ) (e : Data) (ms : Members) → slice_cmp nat_cmp k l ≡ o → InOrder (member l e ms)
      → InOrder (put k d ms)
      → InOrder (match_ordering o (member k d (member l e ms)) (member l d ms) (member l e (put k d ms)))
  unfolding IsStrictlySortedBy
  order_put_at Less l e ms is h later = ((is, below_all k l (keys_in ms) is h.0), h)
  order_put_at Equal l e ms is h later = h
  order_put_at Greater l e ms is h later = (below_put l ms (nat_list_cmp_total.antisymm l k ∙ ap ordering_reverse is) h.0, later)

  -- keys still ascend after a member is put
  order_put : (ms : Members) → InOrder ms → InOrder (put k d ms)
  unfolding IsStrictlySortedBy
  order_put no_members h = (tt, tt)
  order_put (member l e ms) h = order_put_at (slice_cmp nat_cmp k l) l e ms refl h (order_put ms h.1)

-- ---- What is found under a text

-- what is found under a text after a member is put: the new one or what was there
put_either : (text k : List ℕ) (d : Data) (ms : Members) (P : Option Data → Type 0) → (text ≡ k → P (Some d)) → P (get_member text ms)
    → P (get_member text (put k d ms))
put_either text k d ms P same other = at (bytes_eq text k) refl
  where
    at : (b : Bool) → bytes_eq text k ≡ b → P (get_member text (put k d ms))
    at true is =
        let equal = (bytes_eq-Decides text k).0 is in
        subst (λ t. P (get_member t (put k d ms))) (sym equal) (subst P (sym (get_member-put k d ms)) (same equal))
    at false is =
        subst P (sym (get_member-put_other text k d ms (λ equal. true≢false (sym ((bytes_eq-Decides text k).1 equal) ∙ is)))) other

module _ (ranges : PluralRanges) where
  -- what has to be under a text: the category of the pair whose text it is
  abbrev pub wanted : List ℕ → Option Data
  wanted text = option_map name_json (category_under text ranges)

  -- the same by the pair
  abbrev pub wanted_of : Option Range → Option Data
  wanted_of range = option_map name_json (option_and_then (λ (r : Range). category_at ranges r.0 r.1) range)

  -- under the text of a pair that is its category
  pub wanted_at : (start end : RawPluralCategory) → wanted (range_text start end) ≡ option_map name_json (category_at ranges start end)
  wanted_at start end = ap wanted_of (range_named_as start end)

  -- a step leaves what was there, or puts what is wanted
  step_any : (P : Option Data → Type 0) (text : List ℕ) (ms : Members) (start end : RawPluralCategory) → P (wanted text)
      → P (get_member text ms)
      → P (get_member text (put_range start end ms (category_at ranges start end)))
  step_any P text ms start end good before = at (category_at ranges start end) refl
    where
      at : (o : Option RawPluralCategory) → category_at ranges start end ≡ o → P (get_member text (put_range start end ms o))
      at None is = before
      at (Some category) is =
          put_either text (range_text start end) (name_json category) ms P
          (λ same. subst P (ap wanted same ∙ wanted_at start end ∙ ap (option_map name_json) is) good) before

  -- nothing wrong is found there
  abbrev pub Right : List ℕ → Members → Type 0
  Right text ms = (get_member text ms ≡ None) ⊎ (get_member text ms ≡ wanted text)

  -- the step of a pair puts what is wanted
  step_gives : (ms : Members) (start end : RawPluralCategory) → Right (range_text start end) ms
      → get_member (range_text start end) (put_range start end ms (category_at ranges start end)) ≡ wanted (range_text start end)
  step_gives ms start end right = at (category_at ranges start end) refl
    where
      at : (o : Option RawPluralCategory) → category_at ranges start end ≡ o
          → get_member (range_text start end) (put_range start end ms o) ≡ wanted (range_text start end)
      at None is =
          elim right [
            | inl gone ↦ gone ∙ sym (wanted_at start end ∙ ap (option_map name_json) is)
            | inr there ↦ there
          ]
      at (Some category) is =
          get_member-put (range_text start end) (name_json category) ms ∙ sym (wanted_at start end ∙ ap (option_map name_json) is)

  -- what holds of the wanted member and of what was there holds after a row
  row_any : (P : Option Data → Type 0) (text : List ℕ) → P (wanted text) → (ms : Members) (start : RawPluralCategory)
      → P (get_member text ms) → P (get_member text (put_row ranges ms start))
  row_any P text good ms start before =
      fold_keeps (λ m. P (get_member text m)) (λ m end. put_range start end m (category_at ranges start end))
      (λ m end q. step_any P text m start end good q) all_raw_categories ms before

  -- after the row of its start a pair has what is wanted
  row_gives : (start end : RawPluralCategory) (ms : Members) → Right (range_text start end) ms
      → get_member (range_text start end) (put_row ranges ms start) ≡ wanted (range_text start end)
  row_gives start end ms right =
      let text = range_text start end in
      fold_gives (λ m. Right text m) (λ m. get_member text m ≡ wanted text) (λ m e. put_range start e m (category_at ranges start e)) end
      (λ m e r. step_any (λ o. (o ≡ None) ⊎ (o ≡ wanted text)) text m start e (inr refl) r)
      (λ m e q. step_any (λ o. o ≡ wanted text) text m start e refl q)
      (λ m r. step_gives m start end r)
      all_raw_categories (every end) ms right

  -- after all rows each pair has what is wanted
  pair_given : (start end : RawPluralCategory) → get_member (range_text start end) (range_members ranges) ≡ wanted (range_text start end)
  pair_given start end =
      let text = range_text start end in
      fold_gives (λ m. Right text m) (λ m. get_member text m ≡ wanted text) (put_row ranges) start
      (λ m s r. row_any (λ o. (o ≡ None) ⊎ (o ≡ wanted text)) text (inr refl) m s r)
      (λ m s q. row_any (λ o. o ≡ wanted text) text refl m s q)
      (λ m r. row_gives start end m r)
      all_raw_categories (every start) no_members (inl refl)

  -- after all rows nothing wrong is found under any text
  all_right : (text : List ℕ) → Right text (range_members ranges)
  all_right text =
      fold_keeps (λ m. Right text m) (put_row ranges) (λ m s r. row_any (λ o. (o ≡ None) ⊎ (o ≡ wanted text)) text (inr refl) m s r)
      all_raw_categories no_members (inl refl)

  -- under each text is what is wanted
  under_all : (text : List ℕ) → get_member text (range_members ranges) ≡ wanted text
  under_all text = at (range_named text) refl
    where
      at : (o : Option Range) → range_named text ≡ o → get_member text (range_members ranges) ≡ wanted text
      at None is =
          elim (all_right text) [
            | inl gone ↦ gone ∙ sym (ap wanted_of is)
            | inr there ↦ there
          ]
      at (Some range) is =
          subst (λ t. get_member t (range_members ranges) ≡ wanted t) (sym (range_named_is text range is)) (pair_given range.0 range.1)

  -- a step keeps the order of keys
  step_order : (start end : RawPluralCategory) (ms : Members) (o : Option RawPluralCategory) → InOrder ms
      → InOrder (put_range start end ms o)
  step_order start end ms None h = h
  step_order start end ms (Some category) h = order_put (range_text start end) (name_json category) ms h

  -- so does a row
  row_order : (ms : Members) (start : RawPluralCategory) → InOrder ms → InOrder (put_row ranges ms start)
  row_order ms start h =
      fold_keeps InOrder (λ m end. put_range start end m (category_at ranges start end))
      (λ m end q. step_order start end m (category_at ranges start end) q) all_raw_categories ms h

  -- no keys are in order
  none_in_order : InOrder no_members
  unfolding IsStrictlySortedBy
  none_in_order = tt

  -- the members that are put come from the ranges
  pub are_members : AreMembersOf ranges (range_members ranges)
  are_members =
      record { under = under_all; ordered = fold_keeps InOrder (put_row ranges) row_order all_raw_categories no_members none_in_order }
