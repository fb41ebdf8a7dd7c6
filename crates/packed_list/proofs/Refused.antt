-- Bytes of a list are not refused.
use Rattle.std.proofs.Common.{◌≡◌, ℕ, suc, ◌+◌, ◌*◌, ◌<◌, List, [], ◌∷◌, length, ap, arith, inl, inr}
use Rattle.packed_list.specs.ListBytes.{list_bytes, two_byte_number, start_at, HasBadStart, HasFault}
use Rattle.packed_list.specs.declared.error.ListError.{ListError}
use Rattle.packed_list.specs.declared.error.ListError.TheVariants.{Header, ZeroCount, Start}
use Rattle.packed_list.proofs.ListPlaces.{count_is, length-list_bytes, lies_between, start_at-is}

-- no list is one byte
pub not_one : (items : List (List ℕ)) (bytes : List ℕ) → bytes ≡ list_bytes items → length bytes ≡ 1 → ⊥
not_one [] bytes h one = omega (arith, ap length h)
not_one (item ∷ items) bytes h one = omega (arith, length-list_bytes (item ∷ items) bytes h)

-- no list that has bytes has the count 0
pub not_zero : (items : List (List ℕ)) (bytes : List ℕ) → bytes ≡ list_bytes items → 0 < length bytes → two_byte_number bytes 0 ≡ 0 → ⊥
not_zero [] bytes h pos none = omega (arith, ap length h)
not_zero (item ∷ items) bytes h pos none = omega (arith, count_is (item ∷ items) bytes h)

-- no list is shorter than its header
pub not_short : (items : List (List ℕ)) (bytes : List ℕ) → bytes ≡ list_bytes items → length bytes < 2 * two_byte_number bytes 0 → ⊥
not_short items bytes h short = omega (arith, count_is items bytes h, length-list_bytes items bytes h)

-- no list has a bad start
pub not_bad : (items : List (List ℕ)) (bytes : List ℕ) → bytes ≡ list_bytes items → HasBadStart bytes → ⊥
not_bad items bytes h bad =
    let c = count_is items bytes h in
    let a : bad.item < length items = omega (arith, c, bad.is_item) in
    let b : suc bad.item < length items = omega (arith, c, bad.is_item) in
    let e : bad.item + 1 ≡ suc bad.item = omega arith in
    let s = lies_between 0 items bad.item (start_at bytes bad.item) (start_at bytes (suc bad.item))
    (start_at-is items bytes h bad.item a) (start_at-is items bytes h (suc bad.item) b) in
    let f = ap (start_at bytes) e in
    elim bad.is_bad [
      | inl below ↦ omega (arith, f, s.below, below)
      | inr above ↦ omega
          (arith, f, s.within, above, c, length-list_bytes items bytes h)
    ]

-- so no list has a fault
pub not_faulty : (items : List (List ℕ)) (bytes : List ℕ) (fault : ListError) → bytes ≡ list_bytes items → HasFault bytes fault → ⊥
not_faulty items bytes Header h faulty = elim faulty [
  | inl one ↦ not_one items bytes h one
  | inr short ↦ not_short items bytes h short.1
]
not_faulty items bytes ZeroCount h faulty = not_zero items bytes h (omega (arith, faulty.0)) faulty.1
not_faulty items bytes Start h faulty = not_bad items bytes h faulty
