-- Within the bound the kept operands decide a relation as the exact number does.
use Rattle.std.proofs.Common.{◌≡◌, ℕ, zero, suc, ◌+◌, ◌-◌, ◌*◌, ◌/◌, ◌%◌, ◌^◌, ◌<◌, ◌≤◌, ◌↔◌, ◌⊎◌, inl, inr, List, [], ◌∷◌, refl, sym}
use Rattle.std.proofs.Common.{◌∙◌, ap, subst, length, drop, arith, cond, Bool, true, false, eqb, leb, Some, None, option_map, Contains}
use Rattle.std.specs.List.{AllByRecursion, list_any}
use Rattle.std.proofs.lemmas.Bool.{cases_lt, cases_eq, lt-leb, eq-eqb, ne_eqb, or_from, and_right, cond-true, cond-false}
use Rattle.std.proofs.lemmas.Nat.{mod-mul-add, mul-add-lt, div-mul-add, div-add-mod', mod_below}
use Rattle.std.proofs.Math.Nat.{mod-mod_of_dvd, add-mod_right}
use Rattle.std.specs.Int.{◌∣◌}
use Rattle.fixed_decimal.specs.Digits.{value_of, AreDigits}
use Rattle.fixed_decimal.specs.Places.{Places, IsWritten}
use Rattle.plural_operands.specs.Operands.{Operands, IsKeptAt, IsExactAt, kept_whole}
use Rattle.plural_reference.specs.Truth.{RelationMeaning, range_holds, is_in_ranges, holds_value, remainder, under}
use Rattle.plural_operands.specs.Operands.{operand_value}
use Rattle.plural_reference.specs.Truth.{relation_truth}
use Rattle.plural_reference.specs.Exactness.{whole_of, exact_value, exact_relation_truth, IsBoundedAt, AllDivide, IsAdmitted, IsListed}
use Rattle.plural_operands.specs.declared.operand.Operand.{Operand}
use Rattle.plural_operands.specs.declared.operand.Operand.TheVariants.{N, I, V, W, F, T as TOperand, C, E}
use Rattle.plural_operands.proofs.numbers.Numbers.{value_of-below, value_of-drop, power_above}
use Rattle.plural_operands.proofs.numbers.Fractions.{SameFraction, same_fraction, exact_whole}
use Rattle.plural_operands.proofs.numbers.Fractions.{kept_whole-short, exact_fraction, kept_fraction, zero_fraction}

-- ---- ranges that end below a value don't hold it

-- A range that ends below a value doesn't hold it.
above_range : (range : ℕ × ℕ) (value : ℕ) → range.1 < value → range_holds value range ≡ false
above_range range value h = and_right (leb range.0 value) _ (lt-leb value range.1 h)

-- Nor do ranges that all end below it.
above_all : (bound : ℕ) (ranges : List (ℕ × ℕ)) (value : ℕ) → AllByRecursion (λ range. range.1 < bound) ranges
    → bound ≤ value → is_in_ranges ranges value ≡ false
above_all bound [] value below h = refl
above_all bound (range ∷ ranges) value below h =
    let b : range.1 < bound = below.0 in
    or_from (range_holds value range) (list_any (range_holds value) ranges) (above_range range value (omega arith))
    (above_all bound ranges value below.1 h)

-- a modulus above 0 leaves the remainder
pub remainder-some : (m n : ℕ) → 0 < m → remainder m n ≡ n % m
remainder-some m n some = cond-false (eqb m 0) n (n % m) (ne_eqb m 0 (λ e. omega arith))

-- ---- the integer part

-- a number and what is kept of it leave the same by each divisor of 10 ^ 18
kept_remainder : (n m : ℕ) → m ∣ 10 ^ 18 → (n % 10 ^ 18 + 10 ^ 18) % m ≡ n % m
kept_remainder n m d =
    sym (mod-mod_of_dvd m (n % 10 ^ 18 + 10 ^ 18) d)
    ∙ ap (λ k. k % m) (add-mod_right (n % 10 ^ 18) (10 ^ 18))
    ∙ mod-mod_of_dvd m (n % 10 ^ 18) d
    ∙ mod-mod_of_dvd m n d

-- Of a longer number, the remainder by 10 ^ 18 is kept, plus 10 ^ 18.
pub kept_whole-long : (ds : List ℕ) → AreDigits ds → 18 < length ds → kept_whole ds ≡ value_of ds % 10 ^ 18 + 10 ^ 18
kept_whole-long ds h long =
    cond-false (leb (length ds) 18) (value_of ds) (value_of (drop (length ds - 18) ds) + 10 ^ 18) (lt-leb (length ds) 18 long)
    ∙ ap (λ n. n + 10 ^ 18) (value_of-drop ds 18 h (omega arith))

-- a modulus of the list, or none
remainder_agrees : (ranges : List (ℕ × ℕ)) (modulus n : ℕ) → 10 ^ 18 ≤ n
    → AllByRecursion (λ range. range.1 < 10 ^ 18) ranges → (0 < modulus → modulus ∣ 10 ^ 18)
    → is_in_ranges ranges (remainder modulus (n % 10 ^ 18 + 10 ^ 18)) ≡ is_in_ranges ranges (remainder modulus n)
remainder_agrees ranges zero n long below d = above_all (10 ^ 18) ranges (n % 10 ^ 18 + 10 ^ 18) below (omega arith)
    ∙ sym (above_all (10 ^ 18) ranges n below long)
remainder_agrees ranges (suc m) n long below d =
    ap (is_in_ranges ranges) (remainder-some (suc m) (n % 10 ^ 18 + 10 ^ 18) (omega arith)
    ∙ kept_remainder n (suc m) (d (omega arith)) ∙ sym (remainder-some (suc m) n (omega arith)))

-- the integer parts, each with its remainder, are in the same ranges
whole_agrees : (ds moduli : List ℕ) (modulus : ℕ) (ranges : List (ℕ × ℕ)) → AreDigits ds
    → (length ds ≤ 18) ⊎ ((10 ^ 18 ≤ value_of ds) × AllDivide moduli (10 ^ 18))
    → (0 < modulus → Contains moduli modulus) → AllByRecursion (λ range. range.1 < 10 ^ 18) ranges
    → is_in_ranges ranges (remainder modulus (kept_whole ds)) ≡ is_in_ranges ranges (remainder modulus (value_of ds))
whole_agrees ds moduli modulus ranges digits (inl short) listed below
    = ap (λ n. is_in_ranges ranges (remainder modulus n)) (kept_whole-short ds short)
whole_agrees ds moduli modulus ranges digits (inr long) listed below =
    elim (cases_lt 18 (length ds)) [
      | inl many ↦ ap (λ n. is_in_ranges ranges (remainder modulus n)) (kept_whole-long ds digits many)
          ∙ remainder_agrees ranges modulus (value_of ds) long.0 below (λ p. long.1 modulus (listed p) p)
      | inr few ↦ ap (λ n. is_in_ranges ranges (remainder modulus n)) (kept_whole-short ds few)
    ]

-- So i is in the same ranges, kept and exact.
integer_agrees : (y : Places) (e : ℕ) (moduli : List ℕ) (kept exact : Operands) (modulus : ℕ) (ranges : List (ℕ × ℕ))
    → IsWritten y → IsBoundedAt y moduli → IsKeptAt y e kept → IsExactAt y e exact
    → (0 < modulus → Contains moduli modulus) → AllByRecursion (λ range. range.1 < 10 ^ 18) ranges
    → is_in_ranges ranges (remainder modulus kept.i) ≡ is_in_ranges ranges (remainder modulus exact.i)
integer_agrees y e moduli kept exact modulus ranges h bound c x listed below =
    ap (λ n. is_in_ranges ranges (remainder modulus n)) c.i
    ∙ whole_agrees y.whole moduli modulus ranges h.whole bound.whole listed below
    ∙ sym (ap (λ n. is_in_ranges ranges (remainder modulus n)) (exact_whole y e exact h x))

-- ---- the number itself

-- a part + f leaves (a mod m) part + f by m part
scaled_remainder : (a f part m : ℕ) → 0 < m → f < part → (a * part + f) % (m * part) ≡ a % m * part + f
scaled_remainder a f part m pos below =
    let r : a % m < m = mod_below a m pos in
    let small : a % m * part + f < part * m = mul-add-lt (a % m) part f m r below in
    let split : a / m * m + a % m ≡ a = div-add-mod' a m in
    let turned : part * m ≡ m * part = omega arith in
    let e : a * part + f ≡ a / m * (m * part) + (a % m * part + f)
    = ap (λ n. n * part + f) (sym split) ∙ expand (a / m) m (a % m) part f in
    ap (λ n. n % (m * part)) e ∙ mod-mul-add (a / m) (m * part) (a % m * part + f) (subst (λ (n : ℕ). a % m * part + f < n) turned small)
  where
    expand : (q m r part f : ℕ) → (q * m + r) * part + f ≡ q * (m * part) + (r * part + f)
    expand q m r part f = omega arith

-- The remainder of a number with its fraction by a modulus leaves the fraction as it is, also by
-- none.
scaled : (modulus a f part : ℕ) → 0 < part → f < part → remainder (modulus * part) (a * part + f) ≡ remainder modulus a * part + f
scaled zero a f part some below = let z : 0 * part ≡ 0 = omega arith in ap (λ m. remainder m (a * part + f)) z
scaled (suc m) a f part some below =
    remainder-some (suc m * part) (a * part + f) (omega arith)
    ∙ scaled_remainder a f part (suc m) (omega arith) below
    ∙ sym (ap (λ n. n * part + f) (remainder-some (suc m) a (omega arith)))

-- a whole parts and f more are a whole number exactly if f is 0
whole_of-parts : (a f part : ℕ) → f < part → whole_of part (a * part + f) ≡ cond (eqb f 0) (Some a) None
whole_of-parts a f part below =
    ap (λ n. cond (eqb n 0) (Some ((a * part + f) / part)) None) (mod-mul-add a part f below)
    ∙ ap (λ n. cond (eqb f 0) (Some n) None) (div-mul-add a part f below)

-- the exact value of n, by the operands: absent unless f is 0
pub exact_value-n : (modulus : ℕ) (o : Operands) → o.f < 10 ^ o.v
    → exact_value N modulus o ≡ cond (eqb o.f 0) (Some (remainder modulus o.i)) None
exact_value-n modulus o below =
    ap (whole_of (10 ^ o.v)) (scaled modulus o.i o.f (10 ^ o.v) (power_above o.v) below)
    ∙ whole_of-parts (remainder modulus o.i) o.f (10 ^ o.v) below

-- ---- each operand

-- n has a value exactly if the fraction's digits write 0
value-n : (o : Operands) (shown : ℕ) → (o.w ≡ 0) ↔ (shown ≡ 0) → operand_value N o ≡ cond (eqb shown 0) (Some o.i) None
value-n o shown h =
    elim (cases_eq shown 0) [
      | inl none ↦ cond-true (eqb o.w 0) (Some o.i) None (eq-eqb o.w 0 (h.1 none))
          ∙ sym (cond-true (eqb shown 0) (Some o.i) None (eq-eqb shown 0 none))
      | inr some ↦ cond-false (eqb o.w 0) (Some o.i) None (ne_eqb o.w 0 (λ e. some (h.0 e)))
          ∙ sym (cond-false (eqb shown 0) (Some o.i) None (ne_eqb shown 0 some))
    ]

-- Two values that are in the same ranges, under the same condition on being there.
holds-cond : (ranges : List (ℕ × ℕ)) (b : Bool) (f : ℕ → ℕ) (a c : ℕ)
    → is_in_ranges ranges (f a) ≡ is_in_ranges ranges c
    → holds_value ranges (option_map f (cond b (Some a) None)) ≡ holds_value ranges (cond b (Some c) None)
holds-cond ranges true f a c e = e
holds-cond ranges false f a c e = refl

-- So n is in the same ranges, kept and exact.
number_agrees : (y : Places) (e : ℕ) (moduli : List ℕ) (kept exact : Operands) (modulus : ℕ) (ranges : List (ℕ × ℕ))
    → IsWritten y → IsBoundedAt y moduli → IsKeptAt y e kept → IsExactAt y e exact
    → (0 < modulus → Contains moduli modulus) → AllByRecursion (λ range. range.1 < 10 ^ 18) ranges
    → holds_value ranges (option_map (remainder modulus) (operand_value N kept)) ≡ holds_value ranges (exact_value N modulus exact)
number_agrees y e moduli kept exact modulus ranges h bound c x listed below =
    let i : is_in_ranges ranges (remainder modulus kept.i) ≡ is_in_ranges ranges (remainder modulus exact.i)
    = integer_agrees y e moduli kept exact modulus ranges h bound c x listed below in
    let s : SameFraction kept exact = same_fraction y e kept exact h bound.fraction c x in
    let z : (kept.w ≡ 0) ↔ (value_of y.fraction ≡ 0)
    = zero_fraction kept _ _ (kept_fraction y e kept bound.fraction c) (value_of-below y.fraction h.fraction) in
    let f : exact.f ≡ value_of y.fraction = (exact_fraction y e exact h x).f in
    let v : exact.v ≡ length y.fraction = (exact_fraction y e exact h x).v in
    let small : exact.f < 10 ^ exact.v
    = subst (λ (n : ℕ). exact.f < 10 ^ n) (sym v)
    (subst (λ (n : ℕ). n < 10 ^ length y.fraction) (sym f) (value_of-below y.fraction h.fraction)) in
    ap (λ o. holds_value ranges (option_map (remainder modulus) o)) (value-n kept (value_of y.fraction) z)
    ∙ holds-cond ranges (eqb (value_of y.fraction) 0) (remainder modulus) kept.i (remainder modulus exact.i) i
    ∙ ap (λ n. holds_value ranges (cond (eqb n 0) (Some (remainder modulus exact.i)) None)) (sym f)
    ∙ sym (ap (holds_value ranges) (exact_value-n modulus exact small))

-- an operand with the same number on both sides
same_value : (ranges : List (ℕ × ℕ)) (modulus a b : ℕ) → a ≡ b
    → is_in_ranges ranges (remainder modulus a) ≡ is_in_ranges ranges (remainder modulus b)
same_value ranges modulus a b e = ap (λ n. is_in_ranges ranges (remainder modulus n)) e

-- Each operand's value, by its modulus, is in the same ranges.
values_agree : (y : Places) (e : ℕ) (moduli : List ℕ) (kept exact : Operands) → IsWritten y → IsBoundedAt y moduli
    → IsKeptAt y e kept → IsExactAt y e exact → (operand : Operand) (modulus : ℕ) (ranges : List (ℕ × ℕ))
    → IsListed operand modulus moduli → AllByRecursion (λ range. range.1 < 10 ^ 18) ranges
    → holds_value ranges (option_map (remainder modulus) (operand_value operand kept))
    ≡ holds_value ranges (exact_value operand modulus exact)
values_agree y e moduli kept exact h bound c x N modulus ranges listed below
    = number_agrees y e moduli kept exact modulus ranges h bound c x listed below
values_agree y e moduli kept exact h bound c x I modulus ranges listed below
    = integer_agrees y e moduli kept exact modulus ranges h bound c x listed below
values_agree y e moduli kept exact h bound c x V modulus ranges listed below
    = same_value ranges modulus kept.v exact.v (same_fraction y e kept exact h bound.fraction c x).v
values_agree y e moduli kept exact h bound c x W modulus ranges listed below
    = same_value ranges modulus kept.w exact.w (same_fraction y e kept exact h bound.fraction c x).w
values_agree y e moduli kept exact h bound c x F modulus ranges listed below
    = same_value ranges modulus kept.f exact.f (same_fraction y e kept exact h bound.fraction c x).f
values_agree y e moduli kept exact h bound c x TOperand modulus ranges listed below
    = same_value ranges modulus kept.t exact.t (same_fraction y e kept exact h bound.fraction c x).t
values_agree y e moduli kept exact h bound c x C modulus ranges listed below = same_value ranges modulus kept.c exact.c (c.c ∙ sym x.c)
values_agree y e moduli kept exact h bound c x E modulus ranges listed below = same_value ranges modulus kept.c exact.c (c.c ∙ sym x.c)

-- So a relation is true of the kept operands exactly if it is of the exact ones.
pub relation_agrees : (y : Places) (e : ℕ) (moduli : List ℕ) (kept exact : Operands) → IsWritten y
    → IsBoundedAt y moduli → IsKeptAt y e kept → IsExactAt y e exact → (relation : RelationMeaning)
    → IsAdmitted moduli relation → relation_truth kept relation ≡ exact_relation_truth exact relation
relation_agrees y e moduli kept exact h bound c x relation k =
    ap (under relation.operator)
    (values_agree y e moduli kept exact h bound c x relation.operand relation.modulus relation.ranges k.listed k.ends)
