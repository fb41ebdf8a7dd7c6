-- Which lists are told by a modulus.
use Rattle.std.proofs.Common.{◌≡◌, ◌≢◌, ℕ, ◌%◌, List, refl, sym, ap, ◌∙◌, Bool, true, false}
use Rattle.std.specs.Prelude.{◌==◌, ◌&&◌, ◌||◌, not, nat_lt, if◌then◌else◌}
use Rattle.std.specs.List.{list_all}
use Rattle.plural_runtime.specs.PackedRelations.{PackedRelation}
use Rattle.plural_base.specs.declared.rules.known.Known.TheVariants.{From, Leaves, Nothing}
use Rattle.plural_base.specs.Inner.WholeNumbers.{is_list_told}
use Rattle.plural_base.specs.ToldCategories.{divides_100, is_of_number, is_outside, is_told}
use Rattle.plural_base.proofs.integers.Bits.{differs, same_test}

-- the test of a range by what is tested of the modulus
abbrev outside_by : Bool → Bool → ℕ → ℕ → ℕ × ℕ → Bool
outside_by none multiple bound residue range =
    if none then nat_lt range.1 bound else (multiple && ((range.0 == range.1) && not (range.0 % 100 == residue)))

-- what is told of a list by what is tested of the modulus
abbrev told_by : Bool → Bool → Bool → ℕ → ℕ → List (ℕ × ℕ) → Bool
told_by none divides multiple bound residue ranges = (not none && divides) || list_all (outside_by none multiple bound residue) ranges

by_tests : (m bound residue : ℕ) (ranges : List (ℕ × ℕ)) (none divides multiple : Bool)
    → (m == 0) ≡ none → (100 % m == 0) ≡ divides → (m % 100 == 0) ≡ multiple
    → told_by none divides multiple bound residue ranges ≡ (divides_100 m || list_all (is_outside bound residue m) ranges)
by_tests m bound residue ranges none divides multiple e f g =
    sym (ap (λ b. told_by b (100 % m == 0) (m % 100 == 0) bound residue ranges) e
    ∙ ap (λ b. told_by none b (m % 100 == 0) bound residue ranges) f
    ∙ ap (λ b. told_by none divides b bound residue ranges) g)

-- without a modulus
pub told_from : (m bound residue : ℕ) (ranges : List (ℕ × ℕ)) → m ≡ 0
    → is_list_told (From bound) residue ranges ≡ (divides_100 m || list_all (is_outside bound residue m) ranges)
told_from m bound residue ranges none = by_tests m bound residue ranges true _ _ (same_test m 0 none) refl refl

-- by a divisor of 100
pub told_divided : (m bound residue : ℕ) (ranges : List (ℕ × ℕ)) → m ≢ 0 → 100 % m ≡ 0
    → true ≡ (divides_100 m || list_all (is_outside bound residue m) ranges)
told_divided m bound residue ranges above divides =
    by_tests m bound residue ranges false true _ (differs m 0 above) (same_test (100 % m) 0 divides) refl

-- by a multiple of 100
pub told_left : (m bound residue : ℕ) (ranges : List (ℕ × ℕ)) → m ≢ 0 → 100 % m ≢ 0 → m % 100 ≡ 0
    → is_list_told Leaves residue ranges ≡ (divides_100 m || list_all (is_outside bound residue m) ranges)
told_left m bound residue ranges above other multiple =
    by_tests m bound residue ranges false false true (differs m 0 above) (differs (100 % m) 0 other) (same_test (m % 100) 0 multiple)

-- by any other
pub told_of_none : (m bound residue : ℕ) (ranges : List (ℕ × ℕ)) → m ≢ 0 → 100 % m ≢ 0 → m % 100 ≢ 0
    → is_list_told Nothing residue ranges ≡ (divides_100 m || list_all (is_outside bound residue m) ranges)
told_of_none m bound residue ranges above other apart =
    by_tests m bound residue ranges false false false (differs m 0 above) (differs (100 % m) 0 other) (differs (m % 100) 0 apart)

-- ---- Relations by their operands

pub told_of_number : (bound residue : ℕ) (relation : PackedRelation) (told : Bool) → is_of_number relation.meaning.operand ≡ true
    → told ≡ (divides_100 relation.meaning.modulus || list_all (is_outside bound residue relation.meaning.modulus) relation.meaning.ranges)
    → told ≡ is_told bound residue relation
unfolding is_told
told_of_number bound residue relation told is same =
    let list = divides_100 relation.meaning.modulus || list_all (is_outside bound residue relation.meaning.modulus) relation.meaning.ranges in
    same ∙ sym (ap (λ b. not b || list) is)

pub told_of_zero : (bound residue : ℕ) (relation : PackedRelation) → is_of_number relation.meaning.operand ≡ false
    → true ≡ is_told bound residue relation
unfolding is_told
told_of_zero bound residue relation is =
    let list = divides_100 relation.meaning.modulus || list_all (is_outside bound residue relation.meaning.modulus) relation.meaning.ranges in
    sym (ap (λ b. not b || list) is)
