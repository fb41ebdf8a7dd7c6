-- The place of a key among sorted keys, and the value under it.
use Rattle.std.proofs.Common.{◌≡◌, ℕ, zero, suc, ◌*◌, ◌-◌, ◌<◌, ◌≤◌, List, [], ◌∷◌, length, get_or, refl, sym, ap, ◌∙◌, arith, inl, inr}
use Rattle.std.proofs.Common.{subst, Some, None, true, false}
use Rattle.std.proofs.lemmas.Bool.{cases_lt}
use Rattle.std.proofs.lemmas.Cmp.{nat_list_cmp_total, tied_itself}
use Rattle.std.proofs.lemmas.List.{length-map}
use Rattle.std.proofs.lemmas.Map.Keys.{Less-from_sorted}
use Rattle.std.proofs.lemmas.Slice.Eq.{bytes_eq-Decides}
use Rattle.std.specs.Cmp.Lexicographic.{slice_cmp}
use Rattle.std.specs.declared.cmp.Ordering.TheVariants.{Less, Equal}
use Rattle.std.specs.Ordering.{nat_cmp}
use Rattle.std.specs.Prelude.{◌≢◌, Bool, bytes_eq, not, slice_get}
use Rattle.packed_catalog.specs.CatalogBytes.{Entry, entry_keys_of, value_under}
use Rattle.packed_catalog.specs.CatalogFaults.{count_in, key_in, piece_in}
use Rattle.packed_catalog.specs.Inner.CatalogReading.{IsBlock, SharesFront, entries_in, entry_in}
use Rattle.packed_catalog.proofs.BlockBytes.{sorted_in}
use Rattle.packed_catalog.proofs.SharedFronts.{shares_between, shares_fewer, shares_none}
use Rattle.packed_catalog.proofs.BlockEntries.{get_or-keys_in, length-entries_in, slice_get-entries_in}

-- a key is below each later one
pub keys_apart : (bytes : List ℕ) → IsBlock bytes → (i j : ℕ) → i < j → j < count_in bytes
    → slice_cmp nat_cmp (key_in bytes i) (key_in bytes j) ≡ Less
keys_apart bytes h i j l m =
    let keys : List (List ℕ) = entry_keys_of (entries_in bytes) in
    let many : length keys ≡ count_in bytes = length-map (entries_in bytes) (λ (entry : Entry). entry.key) ∙ length-entries_in bytes in
    rw (← get_or-keys_in bytes i (omega arith), ← get_or-keys_in bytes j m)
    (Less-from_sorted (slice_cmp nat_cmp) keys i j [] (sorted_in bytes h) l (omega (arith, many)))

-- up to a key that is below another, all are
pub below_on : (bytes key : List ℕ) → IsBlock bytes → (m : ℕ) → m < count_in bytes → slice_cmp nat_cmp (key_in bytes m) key ≡ Less
    → (k : ℕ) → k ≤ m → slice_cmp nat_cmp (key_in bytes k) key ≡ Less
below_on bytes key h m l less k u = elim (cases_lt k m) [
  | inl before ↦ nat_list_cmp_total.trans (key_in bytes k) (key_in bytes m) key (keys_apart bytes h k m before l) less
  | inr after ↦ let e : m ≡ k = omega arith in subst (λ j. slice_cmp nat_cmp (key_in bytes j) key ≡ Less) e less
]

-- from a key on that isn't below another, none is
pub above_on : (bytes key : List ℕ) → IsBlock bytes → (m : ℕ) → slice_cmp nat_cmp (key_in bytes m) key ≢ Less
    → (k : ℕ) → m ≤ k → k < count_in bytes → slice_cmp nat_cmp (key_in bytes k) key ≢ Less
above_on bytes key h m high k u l less = elim (cases_lt m k) [
  | inl before ↦ high (nat_list_cmp_total.trans (key_in bytes m) (key_in bytes k) key (keys_apart bytes h m k before l) less)
  | inr after ↦ let e : k ≡ m = omega arith in high (subst (λ j. slice_cmp nat_cmp (key_in bytes j) key ≡ Less) e less)
]

-- a key between two others that share a front with a key shares it too, of the smaller length
pub shares_inside : (bytes key : List ℕ) → IsBlock bytes → (low high m c d e : ℕ) → e ≤ c → e ≤ d → low ≤ m
    → m < high → high ≤ count_in bytes
    → (low ≡ 0 → c ≡ 0) → (high ≡ count_in bytes → d ≡ 0) → SharesFront c (key_in bytes (low - 1)) key
    → SharesFront d (key_in bytes high) key
    → SharesFront e (key_in bytes m) key
shares_inside bytes key h low high m c d e ec ed lm mh hn low_none high_none p q = elim (cases_lt 0 low) [
  | inl some ↦ elim (cases_lt high (count_in bytes)) [
    | inl inside ↦ shares_between e (key_in bytes (low - 1)) (key_in bytes m) (key_in bytes high) key
        (keys_apart bytes h (low - 1) m (omega arith) (omega arith)) (keys_apart bytes h m high mh inside)
        (shares_fewer c e (key_in bytes (low - 1)) key ec p) (shares_fewer d e (key_in bytes high) key ed q)
    | inr last ↦ none (omega (arith, high_none (omega arith)))
  ]
  | inr first ↦ none (omega (arith, low_none (omega arith)))
]
  where
    none : e ≡ 0 → SharesFront e (key_in bytes m) key
    none z = rw z (shares_none (key_in bytes m) key)

-- a key below another is another one
pub below_apart : (a b : List ℕ) → slice_cmp nat_cmp a b ≡ Less → a ≢ b
below_apart a b less same =
    let equal : slice_cmp nat_cmp a b ≡ Equal = subst (λ c. slice_cmp nat_cmp a c ≡ Equal) same (tied_itself nat_list_cmp_total a) in
    absurd (cc)

-- the test of two keys that differ
not_true : (r : Bool) → r ≢ true → r ≡ false
not_true true h = absurd (h refl)
not_true false h = refl

apart : (a b : List ℕ) → a ≢ b → bytes_eq a b ≡ false
apart a b h = not_true (bytes_eq a b) (λ t. h ((bytes_eq-Decides a b).0 t))

not_false : (r : Bool) → not r ≡ false → r ≡ true
not_false true h = refl
not_false false h = sym h

-- what the test of a key and another tells
pub told_other : (a b : List ℕ) (r : Bool) → r ≡ not (bytes_eq a b) → r ≡ true → a ≢ b
told_other a b r h t same =
    let e : not (bytes_eq a b) ≡ false = ap not ((bytes_eq-Decides a b).1 same) in
    absurd (cc)

pub told_same : (a b : List ℕ) (r : Bool) → r ≡ not (bytes_eq a b) → r ≡ false → a ≡ b
told_same a b r h f = (bytes_eq-Decides a b).0 (not_false (bytes_eq a b) (sym h ∙ f))

-- the value of the first entry with a key
pub value_found : (key : List ℕ) (entries : List Entry) (i : ℕ) (entry : Entry) → slice_get entries i ≡ Some entry → entry.key ≡ key
    → ((k : ℕ) → k < i → get_or (entry_keys_of entries) k [] ≢ key) → value_under key entries ≡ Some entry.value
value_found key [] i entry h e before = absurd (cc)
value_found key (first ∷ entries) zero entry h e before =
    let same : first ≡ entry = cc in
    rw ((bytes_eq-Decides first.key key).1 (ap (λ (x : Entry). x.key) same ∙ e)) (ap (λ (x : Entry). Some x.value) same)
value_found key (first ∷ entries) (suc i) entry h e before =
    rw (apart first.key key (before 0 (omega arith))) (value_found key entries i entry h e (λ k l. before (suc k) (omega arith)))

-- no value if no entry has a key
pub value_none : (key : List ℕ) (entries : List Entry) → ((k : ℕ) → k < length entries → get_or (entry_keys_of entries) k [] ≢ key)
    → value_under key entries ≡ None
value_none key [] h = refl
value_none key (first ∷ entries) h =
    rw (apart first.key key (h 0 (omega arith))) (value_none key entries (λ k l. h (suc k) (omega arith)))

-- the value at the place of a key that is there
pub found_at : (bytes key : List ℕ) (index : ℕ) → index < count_in bytes
    → ((k : ℕ) → k < index → slice_cmp nat_cmp (key_in bytes k) key ≡ Less)
    → key_in bytes index ≡ key → value_under key (entries_in bytes) ≡ Some (piece_in bytes (suc (2 * index)))
found_at bytes key index l below same =
    value_found key (entries_in bytes) index (entry_in bytes index) (slice_get-entries_in bytes index l) same
    (λ k m e. below_apart (key_in bytes k) key (below k m) (sym (get_or-keys_in bytes k (omega arith)) ∙ e))

-- no value if another key is at the place of a key
pub not_found_at : (bytes key : List ℕ) (index : ℕ) → IsBlock bytes → ((k : ℕ) → k < index → slice_cmp nat_cmp (key_in bytes k) key ≡ Less)
    → ((k : ℕ) → index ≤ k → k < count_in bytes → slice_cmp nat_cmp (key_in bytes k) key ≢ Less)
    → (index < count_in bytes → key_in bytes index ≢ key) → value_under key (entries_in bytes) ≡ None
not_found_at bytes key index h below above other = value_none key (entries_in bytes) (λ k l e.
    let m : k < count_in bytes = omega (arith, l, length-entries_in bytes) in
    let same : key_in bytes k ≡ key = sym (get_or-keys_in bytes k m) ∙ e in
    elim (cases_lt k index) [
      | inl before ↦ below_apart (key_in bytes k) key (below k before) same
      | inr after ↦ elim (cases_lt index k) [
        | inl behind ↦ above index (omega arith) (omega arith)
            (subst (λ (other : List ℕ). slice_cmp nat_cmp (key_in bytes index) other ≡ Less) same (keys_apart bytes h index k behind m))
        | inr here ↦ let j : k ≡ index = omega arith in other (omega arith) (ap (key_in bytes) (sym j) ∙ same)
      ]
    ])
