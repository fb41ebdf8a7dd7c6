-- What is told of lists of ranges by what is known of a value.
use Rattle.std.proofs.Common.{◌≡◌, ℕ, ◌%◌, ◌<◌, ◌≤◌, List, [], ◌∷◌, refl, sym, ap, ◌∙◌, arith, Bool, true, false}
use Rattle.std.specs.Prelude.{◌==◌, ◌&&◌, ◌||◌, not, nat_lt, if◌then◌else◌}
use Rattle.std.specs.List.{list_all, list_any}
use Rattle.std.proofs.lemmas.Bool.{eqb-true}
use Rattle.std.proofs.lemmas.Bool.Decides.{nat_tests}
use Rattle.plural_reference.specs.Truth.{is_in_ranges, range_holds}
use Rattle.plural_base.specs.declared.rules.known.Known.{Known}
use Rattle.plural_base.specs.declared.rules.known.Known.TheVariants.{IsZero, RemainderBy, From, Leaves, Nothing}
use Rattle.plural_base.specs.Inner.WholeNumbers.{Fits, is_list_told, is_range_told, range_or}
use Rattle.plural_base.proofs.integers.Bits.{not_both}
use Rattle.plural_base.proofs.integers.Residues.{ends_below, leaves_another}

-- ---- Lists of tests of which some are told

all_told : {A : Type 0} (told holds : A → Bool) (guess : Bool) (xs : List A) → list_all told xs ≡ true
    → list_any (λ x. if told x then holds x else guess) xs ≡ list_any holds xs
all_told told holds guess [] all = refl
all_told told holds guess (x ∷ xs) all = by (told x) (all_told told holds guess xs) refl
  where
    by : (t : Bool) → (list_all told xs ≡ true → list_any (λ y. if told y then holds y else guess) xs ≡ list_any holds xs)
        → told x ≡ t → list_any (λ y. if told y then holds y else guess) (x ∷ xs) ≡ list_any holds (x ∷ xs)
    by true others e =
        ap (λ t. (if t then holds x else guess) || list_any (λ y. if told y then holds y else guess) xs) e
        ∙ ap (λ b. holds x || b) (others (sym (ap (λ t. t && list_all told xs) e) ∙ all))
    by false others e = absurd (not_both _ all (ap (λ t. t && list_all told xs) e))

untold_true : {A : Type 0} (told holds : A → Bool) (xs : List A) → list_all told xs ≡ false
    → list_any (λ x. if told x then holds x else true) xs ≡ true
untold_true told holds [] none = absurd (cc none)
untold_true told holds (x ∷ xs) none = by (told x) (untold_true told holds xs) refl
  where
    or_true : (b : Bool) → (b || true) ≡ true
    or_true true = refl
    or_true false = refl

    by : (t : Bool) → (list_all told xs ≡ false → list_any (λ y. if told y then holds y else true) xs ≡ true)
        → told x ≡ t → list_any (λ y. if told y then holds y else true) (x ∷ xs) ≡ true
    by true others e =
        ap (λ b. (if told x then holds x else true) || b) (others (sym (ap (λ t. t && list_all told xs) e) ∙ none))
        ∙ or_true (if told x then holds x else true)
    by false others e = ap (λ t. (if t then holds x else true) || list_any (λ y. if told y then holds y else true) xs) e

untold_false : {A : Type 0} (told holds : A → Bool) (xs : List A) → ((x : A) → told x ≡ true → holds x ≡ false)
    → list_any (λ x. if told x then holds x else false) xs ≡ false
untold_false told holds [] outside = refl
untold_false told holds (x ∷ xs) outside = first (told x) refl ∙ untold_false told holds xs outside
  where
    first : (t : Bool) → told x ≡ t → list_any (λ y. if told y then holds y else false) (x ∷ xs)
        ≡ list_any (λ y. if told y then holds y else false) xs
    first true e =
        ap (λ t. (if t then holds x else false) || list_any (λ y. if told y then holds y else false) xs) e
        ∙ ap (λ b. b || list_any (λ y. if told y then holds y else false) xs) (outside x e)
    first false e = ap (λ t. (if t then holds x else false) || list_any (λ y. if told y then holds y else false) xs) e

-- where it can only be told that something doesn't hold
told_outside : {A : Type 0} (told holds : A → Bool) (guess : Bool) (xs : List A) → ((x : A) → told x ≡ true → holds x ≡ false)
    → list_any (λ x. if told x then holds x else guess) xs ≡ (if list_all told xs then list_any holds xs else guess)
told_outside told holds guess xs outside = by (list_all told xs) guess refl
  where
    by : (all guessed : Bool) → list_all told xs ≡ all
        → list_any (λ x. if told x then holds x else guessed) xs ≡ (if all then list_any holds xs else guessed)
    by true guessed e = all_told told holds guessed xs e
    by false true e = untold_true told holds xs e
    by false false e = untold_false told holds xs outside

-- ---- Ranges

-- a test that is true is so
is_below : (a b : ℕ) → nat_lt a b ≡ true → a < b
is_below a b h = grind (arith, nat_tests)

left_of : (a b : Bool) → (a && b) ≡ true → a ≡ true
left_of true b h = refl
left_of false b h = absurd (cc h)

right_of : (a b : Bool) → (a && b) ≡ true → b ≡ true
right_of true b h = h
right_of false b h = absurd (cc h)

-- a range that ends below the least value doesn't hold it
pub below_outside : (class least value : ℕ) (range : ℕ × ℕ) → least ≤ value
    → is_range_told (From least) class range ≡ true → range_holds value range ≡ false
below_outside class least value (start, end) from told = ends_below start end least value from (is_below end least told)

-- one value of another residue isn't the value
pub residue_outside : (class value : ℕ) (range : ℕ × ℕ) → value % 100 ≡ class
    → is_range_told Leaves class range ≡ true → range_holds value range ≡ false
residue_outside class value (start, end) leaves told =
    let same : start ≡ end = eqb-true start end (left_of (start == end) (not (start % 100 == class)) told) in
    let other : not (start % 100 == class) ≡ true = right_of (start == end) (not (start % 100 == class)) told in
    ap (λ e. range_holds value (start, e)) (sym same)
    ∙ leaves_another start 100 value (λ is. apart (start % 100 == class) other (same_test (start % 100) class (is ∙ leaves)))
  where
    apart : (b : Bool) → not b ≡ true → b ≡ true → ⊥
    apart true h is = absurd (cc h)
    apart false h is = absurd (cc is)

    same_test : (a b : ℕ) → a ≡ b → (a == b) ≡ true
    same_test a b is = grind (arith, nat_tests)

-- what is told range by range is told of the list
pub list_told : (known : Known) (class value : ℕ) (guess : Bool) (ranges : List (ℕ × ℕ)) → Fits known class value
    → list_any (range_or guess known class value) ranges ≡ (if is_list_told known class ranges then is_in_ranges ranges value else guess)
list_told IsZero class value guess ranges fits = refl
list_told (RemainderBy modulus) class value guess ranges fits = refl
list_told (From least) class value guess ranges fits =
    told_outside (is_range_told (From least) class) (range_holds value) guess ranges (λ range. below_outside class least value range fits)
list_told Leaves class value guess ranges fits =
    told_outside (is_range_told Leaves class) (range_holds value) guess ranges (λ range. residue_outside class value range fits)
list_told Nothing class value guess ranges fits =
    told_outside (is_range_told Nothing class) (range_holds value) guess ranges (λ range told. absurd (cc told))

-- what can only be told not to hold
pub only_outside : (told holds : Bool) → (told ≡ true → holds ≡ false)
    → (false ≡ (if told then holds else false)) × (not told ≡ (if told then holds else true))
only_outside true holds outside = (sym (outside refl), sym (outside refl))
only_outside false holds outside = (refl, refl)
