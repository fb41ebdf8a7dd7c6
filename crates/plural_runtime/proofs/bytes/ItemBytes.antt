-- The bytes of one relation.
use Rattle.std.proofs.Common.{◌≡◌, ℕ, zero, suc, ◌+◌, ◌-◌, ◌*◌, ◌/◌, ◌%◌, ◌<◌, ◌≤◌, ◌^◌, List, [], ◌∷◌, ◌++◌, length, drop, get_or}
use Rattle.std.proofs.Common.{refl, ap, ◌∙◌, arith, true, Some, inl, inr, get_or-drop, eq-eqb}
use Rattle.std.specs.Prelude.{flat_map, ◌==◌, nat_le}
use Rattle.std.specs.List.{AllByRecursion}
use Rattle.std.specs.Int.{w32, to_le_bytes}
use Rattle.std.specs.Cmp.{first_so, second_so}
use Rattle.std.proofs.lemmas.Bool.{cases_lt, le-ltb, lt-ltb, eqb-true, le-leb, leb-true}
use Rattle.packed_list.specs.Inner.ListReading.{AreBytes}
use Rattle.plural_runtime.specs.declared.kinds.AndOr.{AndOr}
use Rattle.plural_runtime.specs.declared.kinds.AndOr.TheVariants.{And, Or}
use Rattle.plural_reference.specs.declared.ast.Operator.{Operator}
use Rattle.plural_reference.specs.declared.ast.Operator.TheVariants.{Eq, NotEq}
use Rattle.plural_operands.specs.declared.operand.Operand.{Operand}
use Rattle.plural_operands.specs.declared.operand.Operand.TheVariants.{N, I, V, W, F, T, C, E}
use Rattle.plural_runtime.specs.PackedRelations.{PackedRelation, FitsBytes, and_or_bit, operator_bit, operand_number, first_byte}
use Rattle.plural_runtime.specs.PackedRelations.{range_bytes, relation_bytes, is_item_length, is_relation}
use Rattle.plural_runtime.specs.Inner.RuleReading.{and_or_in, operator_in, operand_in, operand_numbered, operand_or_n}
use Rattle.plural_runtime.specs.Inner.RuleReading.{four_byte_number, range_in, ranges_in, relation_in}

-- the mark, the operator and the operand of a first byte are read from it again
pub record KindAgain (and_or : AndOr) (operator : Operator) (operand : Operand) : Type 0 where
  pub mark : and_or_in (first_byte and_or operator operand) ≡ and_or
  pub sign : operator_in (first_byte and_or operator operand) ≡ operator
  pub is : operand_in (first_byte and_or operator operand) ≡ Some operand
  pub known : nat_le (first_byte and_or operator operand % 64) 7 ≡ true

-- so they are for each mark, operator and operand
pub kind_again : (and_or : AndOr) (operator : Operator) (operand : Operand) → KindAgain and_or operator operand
kind_again And Eq N = record { mark = refl; sign = refl; is = refl; known = refl }
kind_again And Eq I = record { mark = refl; sign = refl; is = refl; known = refl }
kind_again And Eq V = record { mark = refl; sign = refl; is = refl; known = refl }
kind_again And Eq W = record { mark = refl; sign = refl; is = refl; known = refl }
kind_again And Eq F = record { mark = refl; sign = refl; is = refl; known = refl }
kind_again And Eq T = record { mark = refl; sign = refl; is = refl; known = refl }
kind_again And Eq C = record { mark = refl; sign = refl; is = refl; known = refl }
kind_again And Eq E = record { mark = refl; sign = refl; is = refl; known = refl }
kind_again And NotEq N = record { mark = refl; sign = refl; is = refl; known = refl }
kind_again And NotEq I = record { mark = refl; sign = refl; is = refl; known = refl }
kind_again And NotEq V = record { mark = refl; sign = refl; is = refl; known = refl }
kind_again And NotEq W = record { mark = refl; sign = refl; is = refl; known = refl }
kind_again And NotEq F = record { mark = refl; sign = refl; is = refl; known = refl }
kind_again And NotEq T = record { mark = refl; sign = refl; is = refl; known = refl }
kind_again And NotEq C = record { mark = refl; sign = refl; is = refl; known = refl }
kind_again And NotEq E = record { mark = refl; sign = refl; is = refl; known = refl }
kind_again Or Eq N = record { mark = refl; sign = refl; is = refl; known = refl }
kind_again Or Eq I = record { mark = refl; sign = refl; is = refl; known = refl }
kind_again Or Eq V = record { mark = refl; sign = refl; is = refl; known = refl }
kind_again Or Eq W = record { mark = refl; sign = refl; is = refl; known = refl }
kind_again Or Eq F = record { mark = refl; sign = refl; is = refl; known = refl }
kind_again Or Eq T = record { mark = refl; sign = refl; is = refl; known = refl }
kind_again Or Eq C = record { mark = refl; sign = refl; is = refl; known = refl }
kind_again Or Eq E = record { mark = refl; sign = refl; is = refl; known = refl }
kind_again Or NotEq N = record { mark = refl; sign = refl; is = refl; known = refl }
kind_again Or NotEq I = record { mark = refl; sign = refl; is = refl; known = refl }
kind_again Or NotEq V = record { mark = refl; sign = refl; is = refl; known = refl }
kind_again Or NotEq W = record { mark = refl; sign = refl; is = refl; known = refl }
kind_again Or NotEq F = record { mark = refl; sign = refl; is = refl; known = refl }
kind_again Or NotEq T = record { mark = refl; sign = refl; is = refl; known = refl }
kind_again Or NotEq C = record { mark = refl; sign = refl; is = refl; known = refl }
kind_again Or NotEq E = record { mark = refl; sign = refl; is = refl; known = refl }

-- four bytes of a number below `2 ^ 32` are read as this number
pub number_again : (n : ℕ) → n < 2 ^ 32 → four_byte_number (n % 256) (n / 256 % 256) (n / 65536 % 256) (n / 16777216 % 256) ≡ n
number_again n h = omega arith

-- the four bytes of a number, the low one first
pub le_bytes : (n : ℕ) → to_le_bytes w32 n ≡ (n % 256) ∷ (n / 256 % 256) ∷ (n / 65536 % 256) ∷ (n / 16777216 % 256) ∷ []
le_bytes n = refl

-- the bytes of ranges are read as these ranges
pub ranges_again : (ranges : List (ℕ × ℕ)) → AllByRecursion (λ range. (range.0 < 2 ^ 32) × (range.1 < 2 ^ 32)) ranges
    → ranges_in (flat_map range_bytes ranges) ≡ ranges
ranges_again [] h = refl
ranges_again (range ∷ ranges) h =
    let a = number_again range.0 h.0.0 in
    let b = number_again range.1 h.0.1 in
    rw (a, b, ranges_again ranges h.1) refl

-- each range has eight bytes
pub length-ranges : (ranges : List (ℕ × ℕ)) → length (flat_map range_bytes ranges) ≡ 8 * length ranges
length-ranges [] = refl
length-ranges (range ∷ ranges) = let h = length-ranges ranges in omega arith

-- what a relation is packed to is read again
pub relation_again : (relation : PackedRelation) → FitsBytes relation → relation_in (relation_bytes relation) ≡ relation
unfolding relation_in relation_bytes
relation_again relation h =
    let k = kind_again relation.and_or relation.meaning.operator relation.meaning.operand in
    let m = number_again relation.meaning.modulus h.modulus in
    let r = ranges_again relation.meaning.ranges h.ranges in
    rw (k.mark, k.sign, k.is, m, r) refl

-- the head and whole ranges pass the test of lengths
pub item_length : (bytes : List ℕ) (n : ℕ) → length bytes ≡ 8 * n → (nat_le 5 (suc (suc (suc (suc (suc (length bytes)))))) ≡ true)
    × (((suc (suc (suc (suc (suc (length bytes))))) - 5) % 8 == 0) ≡ true)
item_length bytes n h = (le-leb 5 _ (omega arith), eq-eqb _ 0 (omega arith))

-- the test of items passes what a relation is packed to
pub packed_is_relation : (relation : PackedRelation) → is_relation (relation_bytes relation) ≡ true
unfolding relation_bytes
packed_is_relation relation =
    let k = kind_again relation.and_or relation.meaning.operator relation.meaning.operand in
    let l = item_length (flat_map range_bytes relation.meaning.ranges) (length relation.meaning.ranges)
    (length-ranges relation.meaning.ranges) in
    rw (l.0, l.1, k.known) refl

-- the operand that a number up to 7 names has this number
pub operand_is : (n : ℕ) → n ≤ 7 → operand_number (operand_or_n (operand_numbered n)) ≡ n
operand_is zero h = refl
operand_is (suc zero) h = refl
operand_is (suc (suc zero)) h = refl
operand_is (suc (suc (suc zero))) h = refl
operand_is (suc (suc (suc (suc zero)))) h = refl
operand_is (suc (suc (suc (suc (suc zero))))) h = refl
operand_is (suc (suc (suc (suc (suc (suc zero)))))) h = refl
operand_is (suc (suc (suc (suc (suc (suc (suc zero))))))) h = refl
operand_is (suc (suc (suc (suc (suc (suc (suc (suc n)))))))) h = absurd (omega arith)

-- bits 0 to 5 are the number of the operand that they name
pub operand_byte : (byte : ℕ) → byte % 64 ≤ 7 → operand_number (operand_or_n (operand_in byte)) ≡ byte % 64
operand_byte byte h = operand_is (byte % 64) h

-- bit 7 is that of the mark that it says
pub and_or_byte : (byte : ℕ) → byte < 256 → and_or_bit (and_or_in byte) ≡ 128 * (byte / 128)
and_or_byte byte h = elim (cases_lt byte 128) [
  | inl low ↦ let e = lt-ltb byte 128 low in rw e (omega arith)
  | inr high ↦ let e = le-ltb byte 128 high in rw e (omega arith)
]

-- bit 6 is that of the operator that it says
pub operator_byte : (byte : ℕ) → operator_bit (operator_in byte) ≡ 64 * ((byte % 128) / 64)
operator_byte byte = elim (cases_lt (byte % 128) 64) [
  | inl low ↦ let e = lt-ltb (byte % 128) 64 low in rw e (omega arith)
  | inr high ↦ let e = le-ltb (byte % 128) 64 high in rw e (omega arith)
]

-- four bytes encode the number that they hold
pub four_bytes : (a b c d : ℕ) → a < 256 → b < 256 → c < 256 → d < 256 → to_le_bytes w32 (four_byte_number a b c d) ≡ a ∷ b ∷ c ∷ d ∷ []
four_bytes a b c d ha hb hc hd =
    let e : four_byte_number a b c d % 256 ≡ a = omega arith in
    let f : four_byte_number a b c d / 256 % 256 ≡ b = omega arith in
    let g : four_byte_number a b c d / 65536 % 256 ≡ c = omega arith in
    let h : four_byte_number a b c d / 16777216 % 256 ≡ d = omega arith in
    rw (e, f, g, h) refl

-- bytes of whole ranges encode the ranges that they hold
pub ranges_spelled : (bytes : List ℕ) → AreBytes bytes → length bytes % 8 ≡ 0 → flat_map range_bytes (ranges_in bytes) ≡ bytes
ranges_spelled [] is h = refl
ranges_spelled (a ∷ []) is h = absurd (omega arith)
ranges_spelled (a ∷ b ∷ []) is h = absurd (omega arith)
ranges_spelled (a ∷ b ∷ c ∷ []) is h = absurd (omega arith)
ranges_spelled (a ∷ b ∷ c ∷ d ∷ []) is h = absurd (omega arith)
ranges_spelled (a ∷ b ∷ c ∷ d ∷ e ∷ []) is h = absurd (omega arith)
ranges_spelled (a ∷ b ∷ c ∷ d ∷ e ∷ f ∷ []) is h = absurd (omega arith)
ranges_spelled (a ∷ b ∷ c ∷ d ∷ e ∷ f ∷ g ∷ []) is h = absurd (omega arith)
ranges_spelled (a ∷ b ∷ c ∷ d ∷ e ∷ f ∷ g ∷ i ∷ bytes) is h =
    let x = four_bytes a b c d (is 0) (is 1) (is 2) (is 3) in
    let y = four_bytes e f g i (is 4) (is 5) (is 6) (is 7) in
    let l : length bytes % 8 ≡ 0 = omega arith in
    let again = ranges_spelled bytes (λ k. is (suc (suc (suc (suc (suc (suc (suc (suc k))))))))) l in
    ap (λ p. (p ++ to_le_bytes w32 (four_byte_number e f g i)) ++ flat_map range_bytes (ranges_in bytes)) x
    ∙ ap (λ p. a ∷ b ∷ c ∷ d ∷ (p ++ flat_map range_bytes (ranges_in bytes))) y
    ∙ ap (λ p. a ∷ b ∷ c ∷ d ∷ e ∷ f ∷ g ∷ i ∷ p) again

-- eight bytes encode the range that they hold
pub range_spelled : (bytes : List ℕ) → AreBytes bytes → length bytes ≡ 8 → range_bytes (range_in bytes) ≡ bytes
range_spelled [] is h = absurd (omega arith)
range_spelled (a ∷ []) is h = absurd (omega arith)
range_spelled (a ∷ b ∷ []) is h = absurd (omega arith)
range_spelled (a ∷ b ∷ c ∷ []) is h = absurd (omega arith)
range_spelled (a ∷ b ∷ c ∷ d ∷ []) is h = absurd (omega arith)
range_spelled (a ∷ b ∷ c ∷ d ∷ e ∷ []) is h = absurd (omega arith)
range_spelled (a ∷ b ∷ c ∷ d ∷ e ∷ f ∷ []) is h = absurd (omega arith)
range_spelled (a ∷ b ∷ c ∷ d ∷ e ∷ f ∷ g ∷ []) is h = absurd (omega arith)
range_spelled (a ∷ b ∷ c ∷ d ∷ e ∷ f ∷ g ∷ i ∷ []) is h =
    let x = four_bytes a b c d (is 0) (is 1) (is 2) (is 3) in
    let y = four_bytes e f g i (is 4) (is 5) (is 6) (is 7) in
    ap (λ p. p ++ to_le_bytes w32 (four_byte_number e f g i)) x ∙ ap (λ p. a ∷ b ∷ c ∷ d ∷ p) y
range_spelled (a ∷ b ∷ c ∷ d ∷ e ∷ f ∷ g ∷ i ∷ j ∷ bytes) is h = absurd (omega arith)

-- the ends that bytes hold fit four bytes each
pub ranges-fit : (bytes : List ℕ) → AreBytes bytes → AllByRecursion (λ range. (range.0 < 2 ^ 32) × (range.1 < 2 ^ 32)) (ranges_in bytes)
ranges-fit [] is = tt
ranges-fit (a ∷ []) is = tt
ranges-fit (a ∷ b ∷ []) is = tt
ranges-fit (a ∷ b ∷ c ∷ []) is = tt
ranges-fit (a ∷ b ∷ c ∷ d ∷ []) is = tt
ranges-fit (a ∷ b ∷ c ∷ d ∷ e ∷ []) is = tt
ranges-fit (a ∷ b ∷ c ∷ d ∷ e ∷ f ∷ []) is = tt
ranges-fit (a ∷ b ∷ c ∷ d ∷ e ∷ f ∷ g ∷ []) is = tt
ranges-fit (a ∷ b ∷ c ∷ d ∷ e ∷ f ∷ g ∷ i ∷ bytes) is = (
  (omega (arith, is 0, is 1, is 2, is 3), omega (arith, is 4, is 5, is 6, is 7)),
  ranges-fit bytes (λ k. is (suc (suc (suc (suc (suc (suc (suc (suc k))))))))),
)

-- what the test of an item says
pub record Passed (item : List ℕ) : Type 0 where
  pub five : 5 ≤ length item
  pub eights : (length item - 5) % 8 ≡ 0
  pub operand : get_or item 0 0 % 64 ≤ 7

-- an item that passes the test is long enough and names an operand
pub passed_item : (item : List ℕ) → is_relation item ≡ true → Passed item
passed_item item h =
    let long = first_so (nat_le 5 (length item)) ((length item - 5) % 8 == 0)
    (first_so (is_item_length (length item)) (nat_le (get_or item 0 0 % 64) 7) h) in
    let eights = second_so (nat_le 5 (length item)) ((length item - 5) % 8 == 0)
    (first_so (is_item_length (length item)) (nat_le (get_or item 0 0 % 64) 7) h) in
    let low = second_so (is_item_length (length item)) (nat_le (get_or item 0 0 % 64) 7) h in
    record { five = leb-true _ _ long; eights = eqb-true _ _ eights; operand = leb-true _ _ low }

-- an item that passes is packed from the relation that it holds
pub relation_spelled : (item : List ℕ) → AreBytes item → is_relation item ≡ true → relation_bytes (relation_in item) ≡ item
unfolding relation_in relation_bytes
relation_spelled [] is h = absurd (omega (arith, (passed_item [] h).five))
relation_spelled (a ∷ []) is h = absurd (omega (arith, (passed_item (a ∷ []) h).five))
relation_spelled (a ∷ b ∷ []) is h = absurd (omega (arith, (passed_item (a ∷ b ∷ []) h).five))
relation_spelled (a ∷ b ∷ c ∷ []) is h = absurd (omega (arith, (passed_item (a ∷ b ∷ c ∷ []) h).five))
relation_spelled (a ∷ b ∷ c ∷ d ∷ []) is h = absurd (omega (arith, (passed_item (a ∷ b ∷ c ∷ d ∷ []) h).five))
relation_spelled (a ∷ b ∷ c ∷ d ∷ e ∷ bytes) is h =
    let p = passed_item (a ∷ b ∷ c ∷ d ∷ e ∷ bytes) h in
    let k = operand_byte a p.operand in
    let m = and_or_byte a (is 0) in
    let s = operator_byte a in
    let first : first_byte (and_or_in a) (operator_in a) (operand_or_n (operand_in a)) ≡ a = omega (arith, k, m, s, is 0) in
    let l : length bytes % 8 ≡ 0 = omega (arith, p.eights) in
    let r = ranges_spelled bytes (λ j. is (suc (suc (suc (suc (suc j)))))) l in
    let n = four_bytes b c d e (is 1) (is 2) (is 3) (is 4) in
    ap (λ q. q ∷ (to_le_bytes w32 (four_byte_number b c d e) ++ flat_map range_bytes (ranges_in bytes))) first
    ∙ ap (λ q. a ∷ (q ++ flat_map range_bytes (ranges_in bytes))) n
    ∙ ap (λ q. a ∷ b ∷ c ∷ d ∷ e ∷ q) r

-- the rest of bytes after a place is bytes
pub get-bytes : (bytes : List ℕ) (n i : ℕ) → AreBytes bytes → get_or (drop n bytes) i 0 < 256
get-bytes bytes n i is = rw (get_or-drop n bytes i 0) (is (n + i))

-- the numbers of the relation that an item holds fit four bytes each
pub relation-fits : (item : List ℕ) → AreBytes item → FitsBytes (relation_in item)
unfolding relation_in
relation-fits item is = record {
  modulus = omega (arith, is 1, is 2, is 3, is 4);
  ranges = ranges-fit (drop 5 item) (λ i. get-bytes item 5 i is);
}
