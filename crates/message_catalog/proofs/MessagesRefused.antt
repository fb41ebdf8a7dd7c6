-- Bytes have one fault as a catalogue of messages at most, and none if they are one.
use Rattle.std.proofs.Common.{◌≡◌, ◌∙◌, ◌↔◌, ℕ, zero, suc, ◌<◌, List, [], ◌∷◌, length, ap, subst, sym, Some, arith, inl, inr}
use Rattle.std.proofs.lemmas.Bool.{cases_lt}
use Rattle.packed_catalog.specs.CatalogBytes.{CatalogBytes, Entry}
use Rattle.packed_catalog.specs.CatalogFaults.{HasCatalogBytesFault}
use Rattle.packed_catalog.specs.declared.error.CatalogError.{CatalogError}
use Rattle.packed_pattern.specs.declared.error.BlockError.{BlockError}
use Rattle.packed_pattern.specs.PatternBlocks.{HasBlockFault, IsPatternBlock}
use Rattle.message_catalog.specs.MessageFaults.{HasMessageFault, IsFirstBad, value_at}
use Rattle.message_catalog.specs.declared.error.MessageCatalogError.{MessageCatalogError}
use Rattle.message_catalog.specs.declared.error.MessageCatalogError.TheVariants as errors

-- a place and a fault that are the same
pair : (a b : ℕ) (f g : BlockError) → a ≡ b → f ≡ g → ◌≡◌ {A = ℕ × BlockError} (a, f) (b, g)
pair a b f g h k =
    let of_place : ℕ → ℕ × BlockError = λ place. (place, f) in
    let of_fault : BlockError → ℕ × BlockError = λ fault. (b, fault) in
    ap of_place h ∙ ap of_fault k

-- bytes that aren't a packed catalogue have the catalogue's fault alone
pub catalog_refused : (bytes : List ℕ) (found : CatalogError) → ((entries : List Entry) → CatalogBytes entries bytes → ⊥)
    → ((fault : CatalogError) → (found ≡ fault) ↔ HasCatalogBytesFault bytes fault)
    → (fault : MessageCatalogError) → (errors.Catalog found ≡ fault) ↔ HasMessageFault bytes fault
catalog_refused bytes found none told (errors.Catalog fault) = (
  (λ h. let same : found ≡ fault = cc in (told fault).0 same),
  (λ h. ap errors.Catalog ((told fault).1 h)),
)
catalog_refused bytes found none told (errors.Pattern index fault) = ((λ h. absurd cc), (λ h. absurd (none h.0 h.1)))

-- entries of a catalogue with a bad one have the fault of the first bad one alone
pub entry_refused : (bytes : List ℕ) (entries : List Entry) (at : ℕ) (found : BlockError) → CatalogBytes entries bytes
    → ((index : ℕ) (fault : BlockError) → (◌≡◌ {A = ℕ × BlockError} (at, found) (index, fault)) ↔ IsFirstBad entries index fault)
    → ((others : List Entry) → CatalogBytes others bytes → others ≡ entries) → ((fault : CatalogError) → HasCatalogBytesFault bytes fault → ⊥)
    → (fault : MessageCatalogError) → (errors.Pattern at found ≡ fault) ↔ HasMessageFault bytes fault
entry_refused bytes entries at found packed told one no_fault (errors.Catalog fault) = ((λ h. absurd cc), (λ h. absurd (no_fault fault h)))
entry_refused bytes entries at found packed told one no_fault (errors.Pattern index fault) = (
  (λ h.
      let place : at ≡ index = cc in
      let same : found ≡ fault = cc in
      (entries, packed, (told index fault).0 (pair at index found fault place same))),
  (λ h. let same : ◌≡◌ {A = ℕ × BlockError} (at, found) (index, fault) =
      (told index fault).1 (subst (λ (es : List Entry). IsFirstBad es index fault) (one h.0 h.1) h.2) in
      let place : at ≡ index = ap (λ (p : ℕ × BlockError). p.0) same in
      let fault_same : found ≡ fault = ap (λ (p : ℕ × BlockError). p.1) same in
      cc),
)

-- entries of a catalogue without a bad one have no fault
pub none_refused : (bytes : List ℕ) (entries : List Entry) → ((index : ℕ) (fault : BlockError) → IsFirstBad entries index fault → ⊥)
    → ((others : List Entry) → CatalogBytes others bytes → others ≡ entries) → ((fault : CatalogError) → HasCatalogBytesFault bytes fault → ⊥)
    → (fault : MessageCatalogError) → HasMessageFault bytes fault → ⊥
none_refused bytes entries none one no_fault (errors.Catalog fault) h = no_fault fault h
none_refused bytes entries none one no_fault (errors.Pattern index fault) h =
    none index fault (subst (λ (es : List Entry). IsFirstBad es index fault) (one h.0 h.1) h.2)

-- ---- the first bad entry

-- a value is a packed pattern, and has no fault
abbrev pub IsGood : List ℕ → Type 0
IsGood value = IsPatternBlock value × ((fault : BlockError) → HasBlockFault value fault → ⊥)

-- the values before a place are packed patterns
abbrev pub AreGoodBefore : List Entry → ℕ → Type 0
AreGoodBefore entries n = (k : ℕ) (value : List ℕ) → k < n → value_at entries k ≡ Some value → IsGood value

-- the first bad entry is the one whose value is refused behind good ones
pub first_bad_is : (entries : List Entry) (at : ℕ) (value : List ℕ) (found : BlockError) → AreGoodBefore entries at
    → value_at entries at ≡ Some value → ((fault : BlockError) → (found ≡ fault) ↔ HasBlockFault value fault) → (IsPatternBlock value → ⊥)
    → (index : ℕ) (fault : BlockError) → (◌≡◌ {A = ℕ × BlockError} (at, found) (index, fault)) ↔ IsFirstBad entries index fault
first_bad_is entries at value found good there told bad index fault = (
  (λ h.
      let place : at ≡ index = ap (λ (p : ℕ × BlockError). p.0) h in
      let same : found ≡ fault = ap (λ (p : ℕ × BlockError). p.1) h in
      subst (λ k. IsFirstBad entries k fault) place
      (record { value = value; there = there; bad = (told fault).0 same; before = λ k other l e. (good k other l e).0 })),
  (λ h. elim (cases_lt index at) [
    | inl before ↦ absurd ((good index h.value before h.there).1 fault h.bad)
    | inr after ↦ elim (cases_lt at index) [
      | inl behind ↦ absurd (bad (h.before at value behind there))
      | inr here ↦
          let place : at ≡ index = omega arith in
          let both : Some h.value ≡ Some value = sym h.there ∙ ap (value_at entries) (sym place) ∙ there in
          let value_same : h.value ≡ value = cc in
          let same : found ≡ fault = (told fault).1 (subst (λ (v : List ℕ). HasBlockFault v fault) value_same h.bad) in
          pair at index found fault place same
    ]
  ]),
)

-- a value is within the entries
pub value_within : (entries : List Entry) (index : ℕ) (value : List ℕ) → value_at entries index ≡ Some value → index < length entries
value_within [] index value h = cc
value_within (entry ∷ entries) zero value h = omega arith
value_within (entry ∷ entries) (suc index) value h = omega (arith, value_within entries index value h)
