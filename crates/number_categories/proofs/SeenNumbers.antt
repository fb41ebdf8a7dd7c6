-- The walk over the whole numbers, which sees the least of each category.
use Rattle.std.proofs.Common.{◌≡◌, ◌≢◌, ◌⊎◌, ℕ, ◌+◌, ◌<◌, ◌≤◌, zero, suc, Bool, true, false, Option, Some, None, refl, sym, ap, subst, ◌∙◌, arith, inl, inr}
use Rattle.std.specs.Prelude.{IsSome, IsTrue}
use Rattle.std.proofs.lemmas.Bool.{cases_order, true≢false}
use Rattle.plural_base.specs.Categories.{place_of}
use Rattle.plural_base.specs.FiveRules.{FiveRules}
use Rattle.plural_base.specs.declared.category.PluralCategory.{PluralCategory}
use Rattle.plural_base.specs.declared.category.PluralCategory.TheVariants.{Zero, One, Two, Few, Many, Other}
use Rattle.number_categories.specs.WholeNumbers.{AreTwoBelow, HasWhole, HoldsNowhere, IsLeastBelow, least_at}
use Rattle.number_categories.specs.Inner.SoughtNumbers.{AreEnough, AreFound, AreSeenBelow, IsFound, are_enough, is_sought, no_numbers, two_with, with_number}
use Rattle.number_categories.specs.declared.least_numbers.LeastNumbers.{LeastNumbers}
use Rattle.number_categories.specs.declared.sought.Sought.{Sought}
use Rattle.number_categories.specs.declared.two_numbers.TwoNumbers.{TwoNumbers}

-- ---- Categories by their places

-- the category of a place
abbrev placed : ℕ → PluralCategory
placed zero = Zero
placed (suc zero) = One
placed (suc (suc zero)) = Two
placed (suc (suc (suc zero))) = Few
placed (suc (suc (suc (suc zero)))) = Many
placed (suc (suc (suc (suc (suc n))))) = Other

placed-place_of : (c : PluralCategory) → placed (place_of c) ≡ c
placed-place_of Zero = refl
placed-place_of One = refl
placed-place_of Two = refl
placed-place_of Few = refl
placed-place_of Many = refl
placed-place_of Other = refl

same_or_not : (a b : PluralCategory) → (a ≡ b) ⊎ (a ≢ b)
same_or_not a b = by (cases_order (place_of a) (place_of b))
  where
    by : (place_of a ≡ place_of b) ⊎ ((place_of a < place_of b) ⊎ (place_of b < place_of a)) → (a ≡ b) ⊎ (a ≢ b)
    by (inl same) = inl (sym (placed-place_of a) ∙ ap placed same ∙ placed-place_of b)
    by (inr (inl less)) = inr (λ same. (let places : place_of a ≡ place_of b = ap place_of same in omega arith))
    by (inr (inr more)) = inr (λ same. (let places : place_of a ≡ place_of b = ap place_of same in omega arith))

-- ---- One number more

module _ (Has : ℕ → Type 0) (start end : ℕ) where
  nowhere_more : HoldsNowhere Has start end → ¬ (Has end) → HoldsNowhere Has start (end + 1)
  nowhere_more nowhere free n from below has = by (cases_order n end)
    where
      by : (n ≡ end) ⊎ ((n < end) ⊎ (end < n)) → ⊥
      by (inl same) = free (subst Has same has)
      by (inr (inl less)) = nowhere n from less has
      by (inr (inr more)) = omega arith

  least_without : (found : Option ℕ) → ¬ (Has end) → IsLeastBelow Has start end found → IsLeastBelow Has start (end + 1) found
  least_without None free none = nowhere_more none free
  least_without (Some n) free (from, below, has, none) = (from, omega arith, has, none)

  least_kept : (later n : ℕ) → end ≤ later → IsLeastBelow Has start end (Some n) → IsLeastBelow Has start later (Some n)
  least_kept later n up (from, below, has, none) = (from, omega arith, has, none)

  least_new : start ≤ end → Has end → IsLeastBelow Has start end None → IsLeastBelow Has start (end + 1) (Some end)
  least_new up has none = (up, omega arith, has, none)

  -- the first of two is the least
  first_least : (first second : Option ℕ) → AreTwoBelow Has start end first second → IsLeastBelow Has start end first
  first_least None second two = two.0
  first_least (Some n) second two = two.0

  first_kept : (later : ℕ) (first second : Option ℕ) → end ≤ later → IsSome first → AreTwoBelow Has start end first second
      → IsLeastBelow Has start later first
  first_kept later None second up is_there two = cc
  first_kept later (Some n) second up is_there two = least_kept later n up two.0

module _ (Has : ℕ → Type 0) (start end : ℕ) where
  without : (first second : Option ℕ) → ¬ (Has end) → AreTwoBelow Has start end first second
      → AreTwoBelow Has start (end + 1) first second
  without None second free (none, absent) = (least_without Has start end None free none, absent)
  without (Some n) second free (found, after) =
      (least_without Has start end (Some n) free found, least_without Has (n + 1) end second free after)

  empty : (second : Option ℕ) → second ≡ None → IsLeastBelow Has (end + 1) (end + 1) second
  empty second absent = subst (IsLeastBelow Has (end + 1) (end + 1)) (sym absent) (λ n from below has. omega arith)

  one_more : (first second : Option ℕ) → start ≤ end → Has end → AreTwoBelow Has start end first second
      → AreTwoBelow Has start (end + 1) (two_with first second end).first (two_with first second end).second
  one_more None second from has (none, absent) = (least_new Has start end from has none, empty second absent)
  one_more (Some n) None from has (found, after) =
      (least_kept Has start end (end + 1) n (omega arith) found, least_new Has (n + 1) end (omega (arith, found.1)) has after)
  one_more (Some n) (Some m) from has (found, after) =
      (least_kept Has start end (end + 1) n (omega arith) found, least_kept Has (n + 1) end (end + 1) m (omega arith) after)

  -- two that are there stay the least, whatever later numbers have
  two_kept : (later : ℕ) (first second : Option ℕ) → end ≤ later → IsSome second → AreTwoBelow Has start end first second
      → AreTwoBelow Has start later first second
  two_kept later None None up is_there two = cc
  two_kept later None (Some m) up is_there (none, absent) = cc
  two_kept later (Some n) None up is_there two = cc
  two_kept later (Some n) (Some m) up is_there (found, after) =
      (least_kept Has start end later n up found, least_kept Has (n + 1) end later m up after)

-- those of a category that no number has
found_none : (alone : Bool) (rules : FiveRules) (c : PluralCategory) (start end : ℕ) (first second : Option ℕ)
    → ((n : ℕ) → ¬ (HasWhole rules c n)) → AreTwoBelow (λ n. HasWhole rules c n) start end first second
    → IsFound alone rules c start record { first = first; second = second }
found_none true rules c start end None second free seen = λ n from below has. free n has
found_none false rules c start end None second free seen = ((λ n from below has. free n has), seen.1)
found_none alone rules c start end (Some n) second free ((from, below, has, none), after) = absurd (free n has)

-- those that are enough are found
found_early : (alone : Bool) (rules : FiveRules) (c : PluralCategory) (start end : ℕ) (two : TwoNumbers) → end ≤ 10000
    → IsTrue (are_enough alone two) → AreTwoBelow (λ n. HasWhole rules c n) start end two.first two.second
    → IsFound alone rules c start two
found_early true rules c start end two below enough seen =
    first_kept (λ n. HasWhole rules c n) start end 10000 two.first two.second below enough seen
found_early false rules c start end two below enough seen =
    two_kept (λ n. HasWhole rules c n) start end 10000 two.first two.second below enough seen

-- all numbers below the limit were looked at
found_at_last : (alone : Bool) (rules : FiveRules) (c : PluralCategory) (start : ℕ) (two : TwoNumbers)
    → AreTwoBelow (λ n. HasWhole rules c n) start 10000 two.first two.second → IsFound alone rules c start two
found_at_last true rules c start two seen = first_least (λ n. HasWhole rules c n) start 10000 two.first two.second seen
found_at_last false rules c start two seen = seen

-- ---- Of all categories

-- at first no number is seen
pub none_seen : (rules : FiveRules) (start end : ℕ) (seen : LeastNumbers) → end ≤ start
    → ((c : PluralCategory) → least_at seen c ≡ no_numbers) → AreSeenBelow rules start end seen
none_seen rules start end seen down none = record {
  at = λ c. (let P : TwoNumbers → Type 0 = λ two. AreTwoBelow (λ n. HasWhole rules c n) start end two.first two.second in
      subst P (sym (none c)) ((λ n from below has. omega arith), refl));
}

module _ (rules : FiveRules) (start end : ℕ) (seen next : LeastNumbers) (category : PluralCategory)
    (own : least_at next category ≡ with_number (least_at seen category) end)
    (others : (c : PluralCategory) → c ≢ category → least_at next c ≡ least_at seen c) where
  -- the next number is that of its category
  pub next_seen : start ≤ end → HasWhole rules category end → AreSeenBelow rules start end seen
      → AreSeenBelow rules start (end + 1) next
  next_seen from has so_far = record { at = λ c. by c (same_or_not c category) }
    where
      by : (c : PluralCategory) → (c ≡ category) ⊎ (c ≢ category)
          → AreTwoBelow (λ n. HasWhole rules c n) start (end + 1) (least_at next c).first (least_at next c).second
      by c (inl same) =
          let P : PluralCategory → Type 0 =
          λ d. AreTwoBelow (λ n. HasWhole rules d n) start (end + 1) (least_at next d).first (least_at next d).second in
          let Q : TwoNumbers → Type 0 = λ two. AreTwoBelow (λ n. HasWhole rules category n) start (end + 1) two.first two.second in
          subst P (sym same)
          (subst Q (sym own)
          (one_more (λ n. HasWhole rules category n) start end (least_at seen category).first (least_at seen category).second from has
          (so_far.at category)))
      by c (inr other) =
          let Q : TwoNumbers → Type 0 = λ two. AreTwoBelow (λ n. HasWhole rules c n) start (end + 1) two.first two.second in
          subst Q (sym (others c other))
          (without (λ n. HasWhole rules c n) start end (least_at seen c).first (least_at seen c).second
          (λ (is : HasWhole rules c end). other (sym is ∙ has)) (so_far.at c))

  two_stay : (first second : Option ℕ) → IsSome second → IsSome (two_with first second end).second
  two_stay None second is_there = is_there
  two_stay (Some first) None is_there = refl
  two_stay (Some first) (Some second) is_there = is_there

  -- what has two has two after one more
  pub still_two : (c : PluralCategory) → IsSome (least_at seen c).second → IsSome (least_at next c).second
  still_two c is_there = by (same_or_not c category)
    where
      Two : TwoNumbers → Type 0
      Two two = IsSome two.second

      by : (c ≡ category) ⊎ (c ≢ category) → IsSome (least_at next c).second
      by (inl same) =
          let P : PluralCategory → Type 0 = λ d. Two (least_at next d) in
          let Q : PluralCategory → Type 0 = λ d. Two (least_at seen d) in
          subst P (sym same)
          (subst Two (sym own) (two_stay (least_at seen category).first (least_at seen category).second (subst Q same is_there)))
      by (inr other) = subst Two (sym (others c other)) is_there

-- the next number is that of a category that has two
pub passed : (rules : FiveRules) (start end : ℕ) (seen : LeastNumbers) (category : PluralCategory) → HasWhole rules category end
    → IsSome (least_at seen category).second → AreSeenBelow rules start end seen → AreSeenBelow rules start (end + 1) seen
passed rules start end seen category has two so_far = record { at = λ c. by c (same_or_not c category) }
  where
    by : (c : PluralCategory) → (c ≡ category) ⊎ (c ≢ category)
        → AreTwoBelow (λ n. HasWhole rules c n) start (end + 1) (least_at seen c).first (least_at seen c).second
    by c (inl same) =
        let P : PluralCategory → Type 0 =
        λ d. AreTwoBelow (λ n. HasWhole rules d n) start (end + 1) (least_at seen d).first (least_at seen d).second in
        subst P (sym same)
        (two_kept (λ n. HasWhole rules category n) start end (end + 1) (least_at seen category).first (least_at seen category).second
        (omega arith) two (so_far.at category))
    by c (inr other) =
        without (λ n. HasWhole rules c n) start end (least_at seen c).first (least_at seen c).second
        (λ (is : HasWhole rules c end). other (sym is ∙ has)) (so_far.at c)

-- all that is sought was seen
pub all_enough : (rules : FiveRules) (end : ℕ) (sought : Sought) (seen : LeastNumbers) → end ≤ 10000 → AreEnough sought seen
    → AreSeenBelow rules sought.start end seen → AreFound rules sought seen
all_enough rules end sought seen below enough so_far = record {
  at = λ c is_there. by c is_there (is_sought sought c) refl;
}
  where
    by : (c : PluralCategory) → ((n : ℕ) → HasWhole rules c n → IsTrue (is_sought sought c)) → (b : Bool) → is_sought sought c ≡ b
        → IsFound sought.first_alone rules c sought.start (least_at seen c)
    by c is_there true is = found_early sought.first_alone rules c sought.start end (least_at seen c) below (enough c is) (so_far.at c)
    by c is_there false is =
        found_none sought.first_alone rules c sought.start end (least_at seen c).first (least_at seen c).second
        (λ n has. true≢false (sym (is_there n has) ∙ is)) (so_far.at c)

-- all numbers were looked at
pub all_seen : (rules : FiveRules) (sought : Sought) (seen : LeastNumbers) → AreSeenBelow rules sought.start 10000 seen
    → AreFound rules sought seen
all_seen rules sought seen so_far = record {
  at = λ c is_there. found_at_last sought.first_alone rules c sought.start (least_at seen c) (so_far.at c);
}
