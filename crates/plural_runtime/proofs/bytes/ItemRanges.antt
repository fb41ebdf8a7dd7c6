-- The ranges in the bytes of an item.
use Rattle.std.proofs.Common.{◌≡◌, ℕ, zero, suc, ◌*◌, ◌/◌, ◌<◌, List, [], ◌∷◌, length, drop, refl, sym, ap, ◌∙◌, arith, Some, inl, inr}
use Rattle.std.specs.Prelude.{slice_get}
use Rattle.std.proofs.lemmas.Bool.{cases_eq, eq-eqb, ne_eqb}
use Rattle.plural_runtime.specs.RuleKinds.{ends, range_or_value}
use Rattle.plural_runtime.specs.Inner.RuleReading.{range_in, ranges_in}

-- bytes hold a range for each eight of them
pub length-ranges_in : (bytes : List ℕ) → length (ranges_in bytes) ≡ length bytes / 8
length-ranges_in [] = refl
length-ranges_in (a ∷ []) = refl
length-ranges_in (a ∷ b ∷ []) = refl
length-ranges_in (a ∷ b ∷ c ∷ []) = refl
length-ranges_in (a ∷ b ∷ c ∷ d ∷ []) = refl
length-ranges_in (a ∷ b ∷ c ∷ d ∷ e ∷ []) = refl
length-ranges_in (a ∷ b ∷ c ∷ d ∷ e ∷ f ∷ []) = refl
length-ranges_in (a ∷ b ∷ c ∷ d ∷ e ∷ f ∷ g ∷ []) = refl
length-ranges_in (a ∷ b ∷ c ∷ d ∷ e ∷ f ∷ g ∷ i ∷ bytes) = let h = length-ranges_in bytes in omega arith

-- the range at a place is in the eight bytes there
pub slice_get-ranges_in : (bytes : List ℕ) (k : ℕ) → k < length bytes / 8
    → slice_get (ranges_in bytes) k ≡ Some (range_in (drop (8 * k) bytes))
slice_get-ranges_in [] k h = absurd (omega arith)
slice_get-ranges_in (a ∷ []) k h = absurd (omega arith)
slice_get-ranges_in (a ∷ b ∷ []) k h = absurd (omega arith)
slice_get-ranges_in (a ∷ b ∷ c ∷ []) k h = absurd (omega arith)
slice_get-ranges_in (a ∷ b ∷ c ∷ d ∷ []) k h = absurd (omega arith)
slice_get-ranges_in (a ∷ b ∷ c ∷ d ∷ e ∷ []) k h = absurd (omega arith)
slice_get-ranges_in (a ∷ b ∷ c ∷ d ∷ e ∷ f ∷ []) k h = absurd (omega arith)
slice_get-ranges_in (a ∷ b ∷ c ∷ d ∷ e ∷ f ∷ g ∷ []) k h = absurd (omega arith)
slice_get-ranges_in (a ∷ b ∷ c ∷ d ∷ e ∷ f ∷ g ∷ i ∷ bytes) zero h = refl
slice_get-ranges_in (a ∷ b ∷ c ∷ d ∷ e ∷ f ∷ g ∷ i ∷ bytes) (suc k) h =
    let n : 8 * suc k ≡ suc (suc (suc (suc (suc (suc (suc (suc (8 * k)))))))) = omega arith in
    slice_get-ranges_in bytes k (omega arith) ∙ ap (λ m. Some (range_in (drop m (a ∷ b ∷ c ∷ d ∷ e ∷ f ∷ g ∷ i ∷ bytes)))) (sym n)

-- a range keeps its ends, equal ones too
pub ends_again : (range : ℕ × ℕ) → ends (range_or_value range) ≡ range
ends_again range = elim (cases_eq range.0 range.1) [
  | inl same ↦ let e = eq-eqb range.0 range.1 same in rw e (ap (λ end. (range.0, end)) same)
  | inr other ↦ let e = ne_eqb range.0 range.1 other in rw e refl
]
