-- The first fault of a block, and that there is one at most.
use Rattle.std.proofs.Common.{◌≡◌, ℕ, zero, suc, ◌*◌, ◌/◌, ◌<◌, ◌≤◌, List, refl, ap, arith, inl, inr, subst}
use Rattle.std.specs.Prelude.{◌≢◌}
use Rattle.std.proofs.lemmas.Bool.{cases_lt}
use Rattle.std.specs.Cmp.Lexicographic.{slice_cmp}
use Rattle.std.specs.declared.cmp.Ordering.TheVariants.{Less}
use Rattle.std.specs.Ordering.{nat_cmp}
use Rattle.packed_catalog.specs.CatalogFaults.{HasBadEnd, HasCatalogBytesFault, HasGoodEnds, IsFirst, IsLowKey, count_in, key_in, start_of}
use Rattle.packed_catalog.specs.declared.error.CatalogError.{CatalogError}
use Rattle.packed_catalog.specs.declared.error.CatalogError.TheVariants.{Header, Length, End, Order}
use Rattle.packed_catalog.specs.Inner.CatalogReading.{IsBlock}

-- the first piece that ends before it begins is in the first entry with one
pub first_falling : (bytes : List ℕ) (k : ℕ) → ((j : ℕ) → j < k → start_of bytes j ≤ start_of bytes (suc j))
    → start_of bytes (suc k) < start_of bytes k → IsFirst (HasBadEnd bytes) (k / 2)
first_falling bytes k rises falls = record {
  here = elim (cases_lt (2 * (k / 2)) k) [
    | inl odd ↦ let e : k ≡ suc (2 * (k / 2)) = omega arith in
        inr (subst (λ j. start_of bytes (suc j) < start_of bytes j) e falls)
    | inr even ↦ let e : k ≡ 2 * (k / 2) = omega arith in
        inl (subst (λ j. start_of bytes (suc j) < start_of bytes j) e falls)
  ];
  none_before = λ j l bad. elim bad [
    | inl key ↦ omega (arith, key, rises (2 * j) (omega arith))
    | inr value ↦ omega (arith, value, rises (suc (2 * j)) (omega arith))
  ];
}

-- the first key that isn't above the one before it
pub first_low : (key : ℕ → List ℕ) (i : ℕ) → ((j : ℕ) → suc j < suc i → slice_cmp nat_cmp (key j) (key (suc j)) ≡ Less)
    → slice_cmp nat_cmp (key i) (key (suc i)) ≢ Less → IsFirst (IsLowKey key) (suc i)
first_low key i rises low = record {
  here = low;
  none_before = none;
}
  where
    none : (k : ℕ) → k < suc i → ¬ (IsLowKey key k)
    none zero l bad = bad
    none (suc j) l bad = bad (rises j l)

-- where each end is good, no entry has a bad one
pub no_bad_end : (bytes : List ℕ) → HasGoodEnds bytes → (index : ℕ) → index < count_in bytes → ¬ (HasBadEnd bytes index)
no_bad_end bytes h index l bad = elim bad [
  | inl key ↦ omega (arith, key, h.rises (2 * index) (omega arith))
  | inr value ↦ omega (arith, value, h.rises (suc (2 * index)) (omega arith))
]

-- where the keys rise, none is low
pub no_low_key : (key : ℕ → List ℕ) (n : ℕ) → ((k : ℕ) → suc k < n → slice_cmp nat_cmp (key k) (key (suc k)) ≡ Less)
    → (index : ℕ) → index < n → ¬ (IsLowKey key index)
no_low_key key n rises zero l bad = bad
no_low_key key n rises (suc k) l bad = bad (rises k l)

-- a block has no fault
pub faultless : (bytes : List ℕ) → IsBlock bytes → (fault : CatalogError) → ¬ (HasCatalogBytesFault bytes fault)
faultless bytes h Header bad = omega (arith, bad, h.ends.data_is.header)
faultless bytes h Length bad = bad.1 h.ends.data_is.whole
faultless bytes h (End index) bad = no_bad_end bytes h.ends index bad.1 bad.2.here
faultless bytes h (Order index) bad = no_low_key (key_in bytes) (count_in bytes) h.sorted index bad.1 bad.2.here

-- two first places are one
pub one_first : (Fault : ℕ → Type 0) (i j : ℕ) → IsFirst Fault i → IsFirst Fault j → i ≡ j
one_first Fault i j h g = elim (cases_lt i j) [
  | inl below ↦ absurd (g.none_before i below h.here)
  | inr above ↦ elim (cases_lt j i) [
    | inl over ↦ absurd (h.none_before j over g.here)
    | inr under ↦ omega arith
  ]
]

-- bytes have one fault at most
pub one_fault : (bytes : List ℕ) (a b : CatalogError) → HasCatalogBytesFault bytes a → HasCatalogBytesFault bytes b → a ≡ b
one_fault bytes Header Header h g = refl
one_fault bytes Header Length h g = absurd (omega (arith, h, g.0))
one_fault bytes Header (End j) h g = absurd (omega (arith, h, g.0.header))
one_fault bytes Header (Order j) h g = absurd (omega (arith, h, g.0.data_is.header))
one_fault bytes Length Header h g = absurd (omega (arith, g, h.0))
one_fault bytes Length Length h g = refl
one_fault bytes Length (End j) h g = absurd (h.1 g.0.whole)
one_fault bytes Length (Order j) h g = absurd (h.1 g.0.data_is.whole)
one_fault bytes (End i) Header h g = absurd (omega (arith, g, h.0.header))
one_fault bytes (End i) Length h g = absurd (g.1 h.0.whole)
one_fault bytes (End i) (End j) h g = ap End (one_first (HasBadEnd bytes) i j h.2 g.2)
one_fault bytes (End i) (Order j) h g = absurd (no_bad_end bytes g.0 i h.1 h.2.here)
one_fault bytes (Order i) Header h g = absurd (omega (arith, g, h.0.data_is.header))
one_fault bytes (Order i) Length h g = absurd (g.1 h.0.data_is.whole)
one_fault bytes (Order i) (End j) h g = absurd (no_bad_end bytes h.0 j g.1 g.2.here)
one_fault bytes (Order i) (Order j) h g = ap Order (one_first (IsLowKey (key_in bytes)) i j h.2 g.2)
