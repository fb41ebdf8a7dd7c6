-- Ranges in order, without those that an earlier one covers.
use Rattle.std.proofs.Common.{◌≡◌, ℕ, ◌+◌, ◌-◌, ◌<◌, ◌≤◌, List, [], ◌∷◌, ◌++◌, Bool, true, false, inl, inr, refl, sym, ◌∙◌, ap, subst, Result, Ok, Err, IfOk}
use Rattle.std.proofs.Common.{length, take, get_or, leb, arith, length-append}
use Rattle.std.specs.Prelude.{◌||◌, ◌&&◌}
use Rattle.std.specs.List.Sorted.{IsNonDecreasingBy, IsPartitionPoint, IsPermutation}
use Rattle.std.proofs.lemmas.Bool.{cases_lt, le-leb, lt-leb, leb-true, leb-false}
use Rattle.std.proofs.lemmas.List.{get_or_default, get_or_at}
use Rattle.std.proofs.lemmas.List.Folds.{list_any-append, list_any_more, list_any_none, list_any_at}
use Rattle.std.proofs.lemmas.List.Sorted.{IsNonDecreasingBy-push, IsNonDecreasingBy-short, list_any-IsPermutation}
use Rattle.plural_reference.specs.Truth.{is_in_ranges, range_holds}
use Rattle.plural_base.specs.Inner.OrderedRules.{AreOrdered, HoldSame}

-- a list of ranges
abbrev pub Ranges : Type 0
Ranges = List (ℕ × ℕ)

-- ---- one range

-- it holds what is between its ends
holds : (value : ℕ) (range : ℕ × ℕ) → range.0 ≤ value → value ≤ range.1 → range_holds value range ≡ true
holds value range low high = ap (λ b. b && leb value range.1) (le-leb range.0 value low) ∙ le-leb value range.1 high

-- and no value below
too_low : (value : ℕ) (range : ℕ × ℕ) → value < range.0 → range_holds value range ≡ false
too_low value range low = ap (λ b. b && leb value range.1) (lt-leb range.0 value low)

-- nor one above
too_high : (value : ℕ) (range : ℕ × ℕ) → range.1 < value → range_holds value range ≡ false
too_high value range high = ap (λ b. leb range.0 value && b) (lt-leb value range.1 high) ∙ never (leb range.0 value)
  where
    never : (b : Bool) → (b && false) ≡ false
    never true = refl
    never false = refl

-- a value that it holds is between its ends
between : (value : ℕ) (range : ℕ × ℕ) → range_holds value range ≡ true → (range.0 ≤ value) × (value ≤ range.1)
between value range is = (leb-true range.0 value (first (leb range.0 value) _ is), leb-true value range.1 (second (leb range.0 value) _ is))
  where
    first : (a b : Bool) → (a && b) ≡ true → a ≡ true
    first true b e = refl
    first false b e = e

    second : (a b : Bool) → (a && b) ≡ true → b ≡ true
    second true b e = e
    second false b e = absurd cc

-- ---- a value is sought by halves

-- none of the ranges before the place begins after the value, and all others do
abbrev pub IsPlace : Ranges → ℕ → ℕ → Type 0
IsPlace ranges value place = IsPartitionPoint (λ (range : ℕ × ℕ). leb range.0 value ≡ true) (λ (range : ℕ × ℕ). leb range.0 value ≡ false) ranges place

-- at the place 0 no range holds it
pub none_holds : (ranges : Ranges) (value : ℕ) → IsPlace ranges value 0 → is_in_ranges ranges value ≡ false
none_holds ranges value place =
    list_any_none (range_holds value) ranges
    (λ k d inside. too_low value (get_or ranges k d) (leb-false (get_or ranges k d).0 value (place.1 k d (omega arith) inside)))

-- if the last range before the place ends before the value, no range holds it
pub none_reaches : (ranges : Ranges) (value place : ℕ) (last : ℕ × ℕ) → AreOrdered ranges → 0 < place → place ≤ length ranges
    → IsPlace ranges value place → last ≡ get_or ranges (place - 1) last → last.1 < value → is_in_ranges ranges value ≡ false
none_reaches ranges value place last ordered some within is e short = list_any_none (range_holds value) ranges each
  where
    each : (k : ℕ) (d : ℕ × ℕ) → k < length ranges → range_holds value (get_or ranges k d) ≡ false
    each k d inside = elim (cases_lt k place) [
      | inl before ↦
          let same : get_or ranges (place - 1) d ≡ last = get_or_default ranges (place - 1) d last (omega arith) ∙ sym e in
          let up : (get_or ranges k d).1 ≤ (get_or ranges (place - 1) d).1 = ordered.ends k (place - 1) d (omega arith) (omega arith) in
          let top : (get_or ranges (place - 1) d).1 ≡ last.1 = ap (λ (r : ℕ × ℕ). r.1) same in
          too_high value (get_or ranges k d) (omega arith)
      | inr after ↦ too_low value (get_or ranges k d) (leb-false (get_or ranges k d).0 value (is.1 k d after inside))
    ]

-- otherwise that one holds it
pub last_holds : (ranges : Ranges) (value place : ℕ) (last : ℕ × ℕ) → 0 < place → place ≤ length ranges
    → IsPlace ranges value place → last ≡ get_or ranges (place - 1) last → value ≤ last.1 → is_in_ranges ranges value ≡ true
last_holds ranges value place last some within is e reaches =
    let low : leb (get_or ranges (place - 1) last).0 value ≡ true = is.0 (place - 1) last (omega arith) (omega arith) in
    let low_last : last.0 ≤ value = leb-true last.0 value (ap (λ (r : ℕ × ℕ). leb r.0 value) e ∙ low) in
    list_any_at (range_holds value) ranges (place - 1) last (omega arith)
    (ap (range_holds value) (sym e) ∙ holds value last low_last reaches)

-- ---- ranges that are kept, one after the other

-- of so many ranges these are kept, which hold the same values and don't begin after the others
pub record IsKept (ranges kept : Ranges) (count : ℕ) : Type 0 where
  pub ordered : AreOrdered kept
  pub same : (value : ℕ) → is_in_ranges kept value ≡ is_in_ranges (take count ranges) value
  pub before : (j : ℕ) (d : ℕ × ℕ) → count ≤ j → j < length ranges → 0 < length kept
      → (get_or kept (length kept - 1) d).0 ≤ (get_or ranges j d).0

-- at the start
pub none_kept : (ranges : Ranges) → IsKept ranges [] 0
none_kept ranges = record {
  ordered = record { starts = IsNonDecreasingBy-short (λ (r : ℕ × ℕ). r.0) [] (omega arith); ends = IsNonDecreasingBy-short (λ (r : ℕ × ℕ). r.1) [] (omega arith) };
  same = λ value. refl;
  before = λ j d low inside some. absurd (omega arith);
}

-- the next one
next_in : (ranges : Ranges) (count : ℕ) (range : ℕ × ℕ) (value : ℕ) → count < length ranges → range ≡ get_or ranges count range
    → is_in_ranges (take (count + 1) ranges) value ≡ (is_in_ranges (take count ranges) value || range_holds value range)
next_in ranges count range value inside e =
    list_any_more (range_holds value) ranges count range inside
    ∙ ap (λ r. is_in_ranges (take count ranges) value || range_holds value r) (sym e)

-- one that ends after the last one is kept
pub one_kept : (ranges kept : Ranges) (count : ℕ) (range : ℕ × ℕ) → IsNonDecreasingBy (λ (r : ℕ × ℕ). r.0) ranges
    → IsKept ranges kept count → count < length ranges → range ≡ get_or ranges count range
    → ((d : ℕ × ℕ) → 0 < length kept → (get_or kept (length kept - 1) d).1 < range.1)
    → IsKept ranges (kept ++ range ∷ []) (count + 1)
one_kept ranges kept count range sorted is inside e after = record {
  ordered = record {
    starts = IsNonDecreasingBy-push (λ (r : ℕ × ℕ). r.0) kept range is.ordered.starts (λ d some. first d some);
    ends = IsNonDecreasingBy-push (λ (r : ℕ × ℕ). r.1) kept range is.ordered.ends (λ d some. (let a : (get_or kept (length kept - 1) d).1 < range.1 = after d some in omega arith));
  };
  same = λ value.
      list_any-append (range_holds value) kept (range ∷ []) ∙ ap (λ b. is_in_ranges kept value || b) (alone (range_holds value range))
      ∙ ap (λ b. b || range_holds value range) (is.same value) ∙ sym (next_in ranges count range value inside e);
  before = λ j d low within some. last j d low within;
}
  where
    alone : (b : Bool) → (b || false) ≡ b
    alone true = refl
    alone false = refl

    first : (d : ℕ × ℕ) → 0 < length kept → (get_or kept (length kept - 1) d).0 ≤ range.0
    first d some =
        let f : (get_or kept (length kept - 1) d).0 ≤ (get_or ranges count d).0 = is.before count d (omega arith) inside some in
        let g : (get_or ranges count d).0 ≡ range.0 = ap (λ (r : ℕ × ℕ). r.0) (get_or_default ranges count d range inside ∙ sym e) in
        omega arith

    last : (j : ℕ) (d : ℕ × ℕ) → count + 1 ≤ j → j < length ranges
        → (get_or (kept ++ range ∷ []) (length (kept ++ range ∷ []) - 1) d).0 ≤ (get_or ranges j d).0
    last j d low within =
        let l : length (kept ++ range ∷ []) - 1 ≡ length kept = omega (arith, length-append kept (range ∷ [])) in
        let p : get_or (kept ++ range ∷ []) (length (kept ++ range ∷ []) - 1) d ≡ range
        = ap (λ i. get_or (kept ++ range ∷ []) i d) l ∙ get_or_at kept range [] d (length kept) refl in
        let up : (get_or ranges count d).0 ≤ (get_or ranges j d).0 = sorted count j d (omega arith) within in
        let g : (get_or ranges count d).0 ≡ range.0 = ap (λ (r : ℕ × ℕ). r.0) (get_or_default ranges count d range inside ∙ sym e) in
        let h : (get_or (kept ++ range ∷ []) (length (kept ++ range ∷ []) - 1) d).0 ≡ range.0 = ap (λ (r : ℕ × ℕ). r.0) p in
        omega arith

-- one that the last one covers isn't
pub one_covered : (ranges kept : Ranges) (count : ℕ) (range : ℕ × ℕ) → IsKept ranges kept count → count < length ranges
    → range ≡ get_or ranges count range
    → (0 < length kept) × ((d : ℕ × ℕ) → range.1 ≤ (get_or kept (length kept - 1) d).1) → IsKept ranges kept (count + 1)
one_covered ranges kept count range is inside e covered = record {
  ordered = is.ordered;
  same = λ value. covers value _ refl ∙ ap (λ b. b || range_holds value range) (is.same value) ∙ sym (next_in ranges count range value inside e);
  before = λ j d low within some. is.before j d (omega arith) within some;
}
  where
    or_false : (b : Bool) → b ≡ (b || false)
    or_false true = refl
    or_false false = refl

    covers : (value : ℕ) (b : Bool) → b ≡ range_holds value range → is_in_ranges kept value ≡ (is_in_ranges kept value || range_holds value range)
    covers value false f = or_false (is_in_ranges kept value) ∙ ap (λ b. is_in_ranges kept value || b) f
    covers value true f =
        let ends : (range.0 ≤ value) × (value ≤ range.1) = between value range (sym f) in
        let low : (get_or kept (length kept - 1) range).0 ≤ (get_or ranges count range).0 = is.before count range (omega arith) inside covered.0 in
        let start : range.0 ≡ (get_or ranges count range).0 = ap (λ (r : ℕ × ℕ). r.0) e in
        let high : range.1 ≤ (get_or kept (length kept - 1) range).1 = covered.1 range in
        let a : range.0 ≤ value = ends.0 in
        let z : value ≤ range.1 = ends.1 in
        let there : is_in_ranges kept value ≡ true
        = list_any_at (range_holds value) kept (length kept - 1) range (let some : 0 < length kept = covered.0 in omega arith)
        (holds value (get_or kept (length kept - 1) range) (omega arith) (omega arith)) in
        there ∙ sym (ap (λ b. b || range_holds value range) there)

-- the last range before the place tells
pub last_tells : (ranges : Ranges) (value place end : ℕ) → AreOrdered ranges → 0 < place → place ≤ length ranges
    → IsPlace ranges value place → end ≡ (get_or ranges (place - 1) (0, 0)).1 → leb value end ≡ is_in_ranges ranges value
last_tells ranges value place end ordered some within is e =
    let last : ℕ × ℕ = get_or ranges (place - 1) (0, 0) in
    let same : last ≡ get_or ranges (place - 1) last = get_or_default ranges (place - 1) (0, 0) last (omega arith) in
    elim (cases_lt end value) [
      | inl short ↦ lt-leb value end short ∙ sym (none_reaches ranges value place last ordered some within is same (subst (λ (n : ℕ). n < value) e short))
      | inr reaches ↦ le-leb value end reaches ∙ sym (last_holds ranges value place last some within is same (subst (λ (n : ℕ). value ≤ n) e reaches))
    ]

-- what holds the values of ranges holds those of the same ranges in another order
pub after_sorting : {E : Type 0} (made : Result Ranges E) (ranges others : Ranges) → IsPermutation ranges others
    → IfOk made (λ ordered. HoldSame ordered others) → IfOk made (λ ordered. HoldSame ordered ranges)
after_sorting (Ok ordered) ranges others moved same =
    λ value. same value ∙ sym (list_any-IsPermutation (range_holds value) ranges others moved)
after_sorting (Err error) ranges others moved same = tt
