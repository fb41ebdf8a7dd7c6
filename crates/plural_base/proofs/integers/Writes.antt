-- Entries that are written at the places of a mask, one after the other.
use Rattle.std.proofs.Common.{◌≡◌, ◌≢◌, ℕ, ◌^◌, ◌-◌, ◌<◌, List, length, Bool, true, false, refl, sym, ◌∙◌, ap, subst, eq-eqb, length-set, bit_and}
use Rattle.std.proofs.Common.{get_or-set_other, get_or-set_same, get_or}
use Rattle.std.specs.Prelude.{◌==◌, if◌then◌else◌, slice_set, Option, None}
use Rattle.std.specs.Int.{w128, trailing_zeros}
use Rattle.std.proofs.lemmas.Bool.{eqb-true}
use Rattle.plural_base.specs.Inner.Masks.{has_bit}
use Rattle.plural_base.proofs.integers.Bits.{first_of_mask, not_both, without_first_other, without_first_same}

-- what is wanted at a place
abbrev pub wanted : {A : Type 0} → List (Option A) → ℕ → Option A → ℕ → Option A
wanted old places entry place = if has_bit places place then entry else get_or old place None

-- At the places that are left nothing is written yet, and at the others what is wanted.
pub record IsWritten {A : Type 0} (old new : List (Option A)) (places left : ℕ) (entry : Option A) : Type 0 where
  pub still : (place : ℕ) → place < 128 → has_bit left place ≡ true → has_bit places place ≡ true
  pub done : (place : ℕ) → place < 128 → place < length new → has_bit left place ≡ false → get_or new place None ≡ wanted old places entry place

-- in the beginning all places are left
pub nothing_written : {A : Type 0} (old : List (Option A)) (places : ℕ) (entry : Option A) → IsWritten old old places places entry
nothing_written old places entry = record {
  still = λ place within h. h;
  done = λ place within inside h. ap (λ b. if b then entry else get_or old place None) (sym h);
}

differs : (a b : ℕ) → (a == b) ≡ false → a ≢ b
differs a b other same = not_both (a == b) (eq-eqb a b same) other

-- one place more: what is left has the other places
still_more : (places left rest k : ℕ) → has_bit rest k ≡ false → ((place : ℕ) → place ≢ k → has_bit rest place ≡ has_bit left place)
    → ((place : ℕ) → place < 128 → has_bit left place ≡ true → has_bit places place ≡ true)
    → (place : ℕ) → place < 128 → has_bit rest place ≡ true → has_bit places place ≡ true
still_more places left rest k same others so_far place h has = by (place == k) refl
  where
    by : (is : Bool) → (place == k) ≡ is → has_bit places place ≡ true
    by true e = absurd (not_both _ has (ap (has_bit rest) (eqb-true place k e) ∙ same))
    by false e = so_far place h (sym (others place (differs place k e)) ∙ has)

done_more : {A : Type 0} (old new : List (Option A)) (places left rest : ℕ) (entry : Option A) (k : ℕ) → k < length new
    → has_bit places k ≡ true → ((place : ℕ) → place ≢ k → has_bit rest place ≡ has_bit left place)
    → ((place : ℕ) → place < 128 → place < length new → has_bit left place ≡ false → get_or new place None ≡ wanted old places entry place)
    → (place : ℕ) → place < 128 → place < length (slice_set new k entry) → has_bit rest place ≡ false
    → get_or (slice_set new k entry) place None ≡ wanted old places entry place
done_more old new places left rest entry k inside here others so_far place h i has = by (place == k) refl
  where
    by : (same : Bool) → (place == k) ≡ same → get_or (slice_set new k entry) place None ≡ wanted old places entry place
    by true e =
        ap (λ n. get_or (slice_set new k entry) n None) (eqb-true place k e)
        ∙ get_or-set_same new k entry None inside
        ∙ ap (λ b. if b then entry else get_or old k None) (sym here)
        ∙ ap (wanted old places entry) (sym (eqb-true place k e))
    by false e =
        let other = differs place k e in
        let P : ℕ → Type 0 = λ n. place < n in
        get_or-set_other new k place entry None other
        ∙ so_far place h (subst P (length-set new k entry) i) (sym (others place other) ∙ has)

pub one_more : {A : Type 0} (old new : List (Option A)) (places left : ℕ) (entry : Option A) → 0 < left → left < 2 ^ 128
    → trailing_zeros w128 left < length new → IsWritten old new places left entry
    → IsWritten old (slice_set new (trailing_zeros w128 left) entry) places (bit_and left (left - 1)) entry
one_more old new places left entry above fits inside so_far =
    let first = first_of_mask left above fits in
    let k = trailing_zeros w128 left in
    let others = λ (place : ℕ) (other : place ≢ k). without_first_other left place above fits other in
    record {
      still = still_more places left (bit_and left (left - 1)) k (without_first_same left above fits) others so_far.still;
      done = done_more old new places left (bit_and left (left - 1)) entry k inside (so_far.still k first.0 first.1) others so_far.done;
    }
