-- The tree of a relation says what the relation says.
use Rattle.std.proofs.Common.{◌≡◌, ℕ, List, [], ◌∷◌, map, refl, sym, ap, Bool, true, false}
use Rattle.std.specs.Prelude.{◌==◌}
use Rattle.std.proofs.lemmas.Bool.{eqb-true}
use Rattle.plural_reference.specs.Truth.{ends_of, meaning_of, modulus_of, RelationMeaning, is_zero_modulus}
use Rattle.plural_runtime.specs.PackedTree.{unpacked_range, unpacked_modulus, unpacked_meaning}

-- a range keeps its ends in the tree, equal ones too
pub range_again : (range : ℕ × ℕ) → ends_of (unpacked_range range) ≡ range
range_again range = by (range.0 == range.1) refl
  where
    by : (same : Bool) → (range.0 == range.1) ≡ same → ends_of (unpacked_range range) ≡ range
    by true h = let e = eqb-true range.0 range.1 h in rw h (ap (λ end. (range.0, end)) e)
    by false h = rw h refl

-- so do all ranges of a list
pub ranges_again : (ranges : List (ℕ × ℕ)) → map ends_of (map unpacked_range ranges) ≡ ranges
ranges_again [] = refl
ranges_again (range ∷ ranges) = rw (range_again range, ranges_again ranges) refl

-- no modulus is 0 again
pub modulus_again : (modulus : ℕ) → modulus_of (unpacked_modulus modulus) ≡ modulus
modulus_again modulus = by (modulus == 0) refl
  where
    by : (none : Bool) → (modulus == 0) ≡ none → modulus_of (unpacked_modulus modulus) ≡ modulus
    by true h = let e = eqb-true modulus 0 h in rw h (sym e)
    by false h = rw h refl

-- no modulus of such a tree is 0
pub modulus_not_zero : (modulus : ℕ) → is_zero_modulus (unpacked_modulus modulus) ≡ false
modulus_not_zero modulus = by (modulus == 0) refl
  where
    by : (none : Bool) → (modulus == 0) ≡ none → is_zero_modulus (unpacked_modulus modulus) ≡ false
    by true h = rw h refl
    by false h = rw h h

-- the tree of a relation means what the relation says
pub meaning_again : (relation : RelationMeaning) → meaning_of (unpacked_meaning relation) ≡ relation
meaning_again relation = rw (ranges_again relation.ranges, modulus_again relation.modulus) refl
