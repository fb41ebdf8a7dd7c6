-- A number less an offset is one, and so is how it is written.
use Rattle.std.proofs.Common.{◌≡◌, ℕ, zero, suc, ◌+◌, ◌*◌, ◌^◌, ◌<◌, ◌≤◌, pos, ◌-ℤ◌, List, [], ◌∷◌, ◌++◌, length, take, drop}
use Rattle.std.proofs.Common.{get_or, refl, sym, ap, subst, ◌∙◌, inl, inr, arith, length-append}
use Rattle.std.proofs.Math.Nat.{mul-le-mul_right, pow-le-pow_right}
use Rattle.std.proofs.Math.Seq.{take-append_seam, drop-append_seam}
use Rattle.std.proofs.lemmas.Bool.{cases_lt}
use Rattle.std.proofs.lemmas.Int.{ints}
use Rattle.fixed_decimal.specs.Digits.{value_of, AreDigits}
use Rattle.fixed_decimal.specs.Places.{Places, IsWritten}
use Rattle.fixed_decimal.specs.declared.decimal.Decimal.{Decimal}
use Rattle.fixed_decimal.specs.declared.sign.Sign.{Sign}
use Rattle.fixed_decimal.specs.declared.sign.Sign.TheVariants as sign
use Rattle.message_format.specs.FormatOffsets.{units, signed, IsSignOf, IsDifference}
use Rattle.message_format.proofs.Columns.{digits_append, value_below}
use Rattle.message_format.proofs.Distances.{own_units}

-- ---- digits of one number

not_less : (d e p a b : ℕ) → a < p → d * p + a ≡ e * p + b → d < e → ⊥
not_less d e p a b l h k = let m : suc d * p ≤ e * p = mul-le-mul_right p k in omega arith

one_top : (d e p a b : ℕ) → a < p → b < p → d * p + a ≡ e * p + b → d ≡ e
one_top d e p a b l k h =
    elim (cases_lt d e) [
      | inl less ↦ absurd (not_less d e p a b l h less)
      | inr most ↦ elim (cases_lt e d) [
        | inl more ↦ absurd (not_less e d p b a k (sym h) more)
        | inr least ↦ omega arith
      ]
    ]

-- as many digits of the same number are the same
one_run : (s t : List ℕ) → AreDigits s → AreDigits t → length s ≡ length t → value_of s ≡ value_of t → s ≡ t
one_run [] [] h k l v = refl
one_run [] (e ∷ t) h k l v = absurd (omega arith)
one_run (d ∷ s) [] h k l v = absurd (omega arith)
one_run (d ∷ s) (e ∷ t) h k l v =
    let n : length s ≡ length t = omega arith in
    let p : 10 ^ length t ≡ 10 ^ length s = ap (λ (m : ℕ). 10 ^ m) (sym n) in
    let below : value_of s < 10 ^ length s = value_below s h.1 in
    let below' : value_of t < 10 ^ length s = subst (λ (m : ℕ). value_of t < m) p (value_below t k.1) in
    let same : d * 10 ^ length s + value_of s ≡ e * 10 ^ length s + value_of t = v ∙ ap (λ (m : ℕ). e * m + value_of t) p in
    let top : d ≡ e = one_top d e (10 ^ length s) (value_of s) (value_of t) below below' same in
    let rest : value_of s ≡ value_of t = behind (10 ^ length s) d e (value_of s) (value_of t) top same in
    let tail : s ≡ t = one_run s t h.1 k.1 n rest in
    cc
  where
    behind : (p d e a b : ℕ) → d ≡ e → d * p + a ≡ e * p + b → a ≡ b
    behind p d e a b top h = let m : d * p ≡ e * p = ap (λ (n : ℕ). n * p) top in omega arith

-- ---- without needless zeros before them

-- the digits don't begin with a 0, or are a single one
abbrev pub Shortest : List ℕ → Type 0
Shortest s = get_or s 0 0 ≡ 0 → s ≡ 0 ∷ []

-- digits that begin with another than 0 write at least the power of ten
at_least : (d : ℕ) (ds : List ℕ) (n : ℕ) → (d ≡ 0 → ⊥) → n ≤ length ds → 10 ^ n ≤ value_of (d ∷ ds)
at_least zero ds n h l = absurd (h refl)
at_least (suc d) ds n h l =
    let ten : 0 < 10 = omega arith in
    let p : 10 ^ n ≤ 10 ^ length ds = pow-le-pow_right ten l in
    let m : 1 * 10 ^ length ds ≤ suc d * 10 ^ length ds = mul-le-mul_right (10 ^ length ds) (omega arith) in
    omega arith

longer : (s t f g : List ℕ) → AreDigits s → AreDigits f → 0 < length s → Shortest t → length f ≡ length g
    → value_of (s ++ f) ≡ value_of (t ++ g)
    → length s < length t → ⊥
longer s [] f g hs hf some short same v less = omega arith
longer s (d ∷ t) f g hs hf some short same v less =
    let first : d ≡ 0 → ⊥ = λ z. let one : length (d ∷ t) ≡ 1 = ap length (short z) in omega arith in
    let below : value_of (s ++ f) < 10 ^ length (s ++ f) = value_below (s ++ f) (digits_append s f hs hf) in
    let m : length (s ++ f) ≡ length s + length f = length-append s f in
    let n : length (t ++ g) ≡ length t + length g = length-append t g in
    let least : 10 ^ length (s ++ f) ≤ value_of (d ∷ (t ++ g)) = at_least d (t ++ g) (length (s ++ f)) first (omega arith) in
    omega arith

one_length : (s t f g : List ℕ) → AreDigits s → AreDigits t → AreDigits f → AreDigits g → 0 < length s → 0 < length t → Shortest s
    → Shortest t → length f ≡ length g
    → value_of (s ++ f) ≡ value_of (t ++ g) → length s ≡ length t
one_length s t f g hs ht hf hg some some' short short' same v =
    elim (cases_lt (length s) (length t)) [
      | inl less ↦ absurd (longer s t f g hs hf some short' same v less)
      | inr most ↦ elim (cases_lt (length t) (length s)) [
        | inl more ↦ absurd (longer t s g f ht hg some' short (sym same) (sym v) more)
        | inr least ↦ omega arith
      ]
    ]

-- ---- the sign

one_sign : (s t : Sign) (m n : ℕ) → IsSignOf s m → IsSignOf t n → signed s m ≡ signed t n → (s ≡ t) × (m ≡ n)
one_sign sign.None sign.None m n h k e = (refl, omega (arith, ints))
one_sign sign.None sign.Negative m n h k e = absurd (omega (arith, ints))
one_sign sign.None sign.Positive m n h k e = absurd k
one_sign sign.Negative sign.None m n h k e = absurd (omega (arith, ints))
one_sign sign.Negative sign.Negative m n h k e = (refl, omega (arith, ints))
one_sign sign.Negative sign.Positive m n h k e = absurd k
one_sign sign.Positive t m n h k e = absurd h

-- ---- the number

same_places : (x y : Places) → x.whole ≡ y.whole → x.fraction ≡ y.fraction → x ≡ y
same_places x y w f =
    ap (λ (l : List ℕ). record { whole = l; fraction = x.fraction }) w
    ∙ ap (λ (l : List ℕ). record { whole = y.whole; fraction = l }) f

same_decimal : (x y : Decimal) → x.sign ≡ y.sign → x.absolute ≡ y.absolute → x ≡ y
same_decimal x y s a =
    ap (λ (l : Sign). record { sign = l; absolute = x.absolute }) s
    ∙ ap (λ (l : Places). record { sign = y.sign; absolute = l }) a

one_absolute : (x y : Places) → IsWritten x → IsWritten y → Shortest x.whole → Shortest y.whole → length x.fraction ≡ length y.fraction
    → value_of (x.whole ++ x.fraction) ≡ value_of (y.whole ++ y.fraction) → x ≡ y
one_absolute x y h k s t f v =
    let w : length x.whole ≡ length y.whole =
    one_length x.whole y.whole x.fraction y.fraction h.whole k.whole h.fraction k.fraction h.nonempty k.nonempty s t f v in
    let m : length (x.whole ++ x.fraction) ≡ length x.whole + length x.fraction = length-append x.whole x.fraction in
    let n : length (y.whole ++ y.fraction) ≡ length y.whole + length y.fraction = length-append y.whole y.fraction in
    let all : x.whole ++ x.fraction ≡ y.whole ++ y.fraction
    = one_run (x.whole ++ x.fraction) (y.whole ++ y.fraction) (digits_append x.whole x.fraction h.whole h.fraction)
    (digits_append y.whole y.fraction k.whole k.fraction) (omega arith) v in
    same_places x y
    (sym (take-append_seam x.whole x.fraction)
    ∙ (ap (λ (l : List ℕ). take (length x.whole) l) all
    ∙ (ap (λ (n : ℕ). take n (y.whole ++ y.fraction)) w ∙ take-append_seam y.whole y.fraction)))
    (sym (drop-append_seam x.whole x.fraction)
    ∙ (ap (λ (l : List ℕ). drop (length x.whole) l) all
    ∙ (ap (λ (n : ℕ). drop n (y.whole ++ y.fraction)) w ∙ drop-append_seam y.whole y.fraction)))

-- a difference is one
pub one_difference : (x : Decimal) (o : Places) (d e : Decimal) → IsDifference x o d → IsDifference x o e → d ≡ e
one_difference x o d e h k =
    let f : length e.absolute.fraction ≡ length d.absolute.fraction = k.places ∙ sym h.places in
    let k' : signed e.sign (units (length e.absolute.fraction) e.absolute) ≡ signed d.sign (units (length d.absolute.fraction) d.absolute)
    = subst (λ (n : ℕ). signed e.sign (units (length e.absolute.fraction) e.absolute)
    ≡ signed x.sign (units n x.absolute) -ℤ pos (units n o)) f k.value ∙ sym h.value in
    let so = one_sign d.sign e.sign (units (length d.absolute.fraction) d.absolute) (units (length e.absolute.fraction) e.absolute) h.sign
    k.sign (sym k') in
    let v : value_of (d.absolute.whole ++ d.absolute.fraction) ≡ value_of (e.absolute.whole ++ e.absolute.fraction)
    = sym (own_units (length d.absolute.fraction) d.absolute refl) ∙ (so.1 ∙ own_units (length e.absolute.fraction) e.absolute refl) in
    same_decimal d e so.0 (one_absolute d.absolute e.absolute h.written k.written h.shortest k.shortest (sym f) v)
