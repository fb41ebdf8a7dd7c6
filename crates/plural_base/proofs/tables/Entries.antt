-- What tables tell, and the bytes that they are written as.
use Rattle.std.proofs.Common.{◌≡◌, ◌≢◌, ◌^◌, ℕ, zero, suc, ◌+◌, ◌<◌, ◌≤◌, ◌⊎◌, List, length, refl, sym, ◌∙◌, ap, subst, arith, inl, inr, ⊎_elim, below_more}
use Rattle.std.proofs.Common.{get_or-set_other, get_or-set_same, get_or}
use Rattle.std.proofs.lemmas.Bool.{cases_lt}
use Rattle.std.proofs.lemmas.Nat.{from_le_bytes-to_le_bytes_8}
use Rattle.std.specs.Prelude.{Option, Some, None, slice_set, slice_index, MatchOption, ◌↔◌, Bool, false, true}
use Rattle.std.specs.Int.{w64, from_le_bytes, to_le_bytes, sum_through, byte_worth}
use Rattle.plural_operands.specs.Operands.{Operands, of_whole}
use Rattle.plural_runtime.specs.PackedRelations.{PackedRelation}
use Rattle.plural_runtime.specs.PackedTruth.{packed_truth}
use Rattle.plural_base.specs.declared.category.PluralCategory.{PluralCategory}
use Rattle.plural_base.specs.declared.category.PluralCategory.TheVariants.{Zero, One, Two, Few, Many, Other}
use Rattle.plural_base.specs.Categories.{place_of}
use Rattle.plural_base.specs.CategoryTables.{IsTableOf, TableTells, integer_entry, table_bound}
use Rattle.plural_base.specs.FiveRules.{FiveRules, first_category}
use Rattle.plural_base.specs.Inner.RulesSteps.{entry_number}
use Rattle.plural_base.specs.Inner.WholeNumbers.{IsTold, told_category as category_told}
use Rattle.plural_base.specs.ToldCategories.{IsCategoryTold, category_or}
use Rattle.plural_base.proofs.integers.Guesses.{AreFrom, guesses}

-- ---- Categories and their numbers

-- the category of a number
abbrev numbered : ℕ → PluralCategory
numbered zero = Zero
numbered (suc zero) = One
numbered (suc (suc zero)) = Two
numbered (suc (suc (suc zero))) = Few
numbered (suc (suc (suc (suc zero)))) = Many
numbered (suc (suc (suc (suc (suc n))))) = Other

numbered-place_of : (category : PluralCategory) → numbered (place_of category) ≡ category
numbered-place_of Zero = refl
numbered-place_of One = refl
numbered-place_of Two = refl
numbered-place_of Few = refl
numbered-place_of Many = refl
numbered-place_of Other = refl

-- no number is that of two categories
same_place : (a b : PluralCategory) → place_of a ≡ place_of b → a ≡ b
same_place a b e = sym (numbered-place_of a) ∙ ap numbered e ∙ numbered-place_of b

place_of-bound : (category : PluralCategory) → place_of category ≤ 5
place_of-bound Zero = omega arith
place_of-bound One = omega arith
place_of-bound Two = omega arith
place_of-bound Few = omega arith
place_of-bound Many = omega arith
place_of-bound Other = omega arith

-- ---- What a table of rules tells

no_value : {A : Type 0} (x : A) → ◌≡◌ {A = Option A} (Some x) None → ⊥
no_value x e = cc

-- a number without a category is at least 128
untold : (rules : FiveRules) (bytes : List ℕ) (n : ℕ) → TableTells bytes n None → IsTableOf rules bytes → 128 ≤ n
untold rules bytes n tells of =
    ⊎_elim
    (λ below. (let least : 5 < slice_index bytes (8 + n) = tells.low below in
    let is : slice_index bytes (8 + n) ≡ integer_entry rules n = of.low n below in
    let most : integer_entry rules n ≤ 5 = place_of-bound (first_category (packed_truth (of_whole n)) rules) in
    absurd (omega (arith, least, is, most))))
    (λ above. above)
    (cases_lt n 128)

-- the category that is told is that of the rules
told_category : (rules : FiveRules) (bytes : List ℕ) (n : ℕ) (category : PluralCategory)
    → TableTells bytes n (Some category) → IsTableOf rules bytes → category ≡ first_category (packed_truth (of_whole n)) rules
told_category rules bytes n category tells of =
    let chosen = first_category (packed_truth (of_whole n)) rules in
    ⊎_elim
    (λ below. same_place category chosen (sym (tells.low below) ∙ of.low n below))
    (λ above. ⊎_elim
    (λ under. absurd (no_value category (tells.between above under)))
    (λ from. ⊎_elim
    (λ is. same_place category chosen (sym (tells.cycle above from) ∙ is))
    (λ asks. (let most : place_of category ≤ 5 = place_of-bound category in
    let six : place_of category ≡ 6 = sym (tells.cycle above from) ∙ asks in
    absurd (omega (arith, most, six))))
    (of.cycle n from))
    (cases_lt n (table_bound bytes)))
    (cases_lt n 128)

-- the category of a table of rules is that of the rules, and is there below 128
pub table_category : (rules : FiveRules) (bytes : List ℕ) (n : ℕ) (told : Option PluralCategory)
    → TableTells bytes n told → IsTableOf rules bytes
    → MatchOption told (128 ≤ n) (λ category. category ≡ first_category (packed_truth (of_whole n)) rules)
table_category rules bytes n None tells of = untold rules bytes n tells of
table_category rules bytes n (Some category) tells of = told_category rules bytes n category tells of

-- ---- Tables that are written

-- what is told of all numbers is written as their category's number, or as 6
pub told_entry : (value : PluralCategory) (told : Option PluralCategory) → IsTold value told
    → (entry_number told ≡ place_of value) ⊎ (entry_number told ≡ 6)
told_entry value None is = inr refl
told_entry value (Some category) is = inl (ap place_of (sym is))

-- what holds of each item below a place holds of each below the next one, once the place is written
pub items_more : (Is : ℕ → ℕ → Type 0) (xs : List ℕ) (k x : ℕ) → k < length xs
    → ((n : ℕ) → n < k → Is n (get_or xs n 0)) → Is k x
    → (n : ℕ) → n < k + 1 → Is n (get_or (slice_set xs k x) n 0)
items_more Is xs k x within so_far here =
    below_more (λ n. Is n (get_or (slice_set xs k x) n 0)) k
    (λ n h. let ne : n ≢ k = omega arith in
    let P : ℕ → Type 0 = λ item. Is n item in
    subst P (sym (get_or-set_other xs k n x 0 ne)) (so_far n h))
    (let P : ℕ → Type 0 = λ item. Is k item in
    subst P (sym (get_or-set_same xs k x 0 within)) here)

-- sums of the same items are the same
sum_through-same : (f g : ℕ → ℕ) (k : ℕ) → ((i : ℕ) → i ≤ k → f i ≡ g i) → sum_through f k ≡ sum_through g k
sum_through-same f g zero same = same 0 (omega arith)
sum_through-same f g (suc k) same =
    ap (λ s. s + f (suc k)) (sum_through-same f g k (λ i h. same i (omega arith)))
    ∙ ap (λ x. sum_through g k + x) (same (suc k) (omega arith))

-- the number that the first eight bytes write
pub eight_bytes : (bytes : List ℕ) (n : ℕ) → n < 2 ^ 64
    → ((place : ℕ) → place < 8 → slice_index bytes place ≡ slice_index (to_le_bytes w64 n) place)
    → from_le_bytes w64 bytes ≡ n
eight_bytes bytes n below same =
    sum_through-same (λ i. byte_worth i (slice_index bytes i)) (λ i. byte_worth i (slice_index (to_le_bytes w64 n) i)) 7
    (λ i h. ap (byte_worth i) (same i (omega arith)))
    ∙ from_le_bytes-to_le_bytes_8 n below

-- an entry has a category if and only if both guesses give the same
by_entry : (told : Option PluralCategory) (sure maybe : PluralCategory) (entry : ℕ) → entry ≡ entry_number told → AreFrom 0 told sure maybe
    → (entry ≢ 6) ↔ (sure ≡ maybe)
by_entry None sure maybe entry is of = ((λ other. absurd (other is)), (λ same six. of.guessed same))
by_entry (Some category) sure maybe entry is of = (
  (λ other. of.guessed.0 ∙ sym of.guessed.1),
  (λ same six.
      (let most : place_of category ≤ 5 = place_of-bound category in
      let number : place_of category ≡ 6 = sym is ∙ six in
      omega (arith, most, number))),
)

pub told_exactly : (told : PackedRelation → Bool) (o : Operands) (rules : FiveRules) (entry : ℕ) → entry ≡ entry_number (category_told told o rules)
    → (entry ≢ 6) ↔ IsCategoryTold told o rules
told_exactly told o rules entry is =
    by_entry (category_told told o rules) (category_or false told o rules) (category_or true told o rules) entry is (guesses told o rules)
