-- All digits of a number, read from its first place on.
use Rattle.std.proofs.Common.{◌≡◌, ℕ, zero, suc, ◌+◌, ◌∷◌, ◌++◌, length, drop, get_or, ap, sym, ◌∙◌, arith, length-append}
use Rattle.std.proofs.lemmas.List.{drop_all}
use Rattle.std.proofs.Math.Seq.{drop-cons}
use Rattle.icu_plurals.specs.Digits.{value_of}
use Rattle.icu_plurals.specs.Operands.{all_digits_value}
use Rattle.icu_plurals.specs.Places.{Places, digits_from}

-- the digits from a place up to the last
digits_from-rest : (x : Places) (i n : ℕ) → i + n ≡ length (x.whole ++ x.fraction) → digits_from x i n ≡ drop i (x.whole ++ x.fraction)
digits_from-rest x i zero h = sym (drop_all i (x.whole ++ x.fraction) (omega arith))
digits_from-rest x i (suc n) h =
    ap (λ ds. get_or (x.whole ++ x.fraction) i 0 ∷ ds) (digits_from-rest x (suc i) n (omega arith))
    ∙ sym (drop-cons (x.whole ++ x.fraction) i 0 (omega arith))

-- the number that all digits write
pub value_of_all : (x : Places) (n : ℕ) → n ≡ length x.whole + length x.fraction → value_of (digits_from x 0 n) ≡ all_digits_value x
value_of_all x n h =
    let e : 0 + n ≡ length (x.whole ++ x.fraction) = omega (arith, length-append x.whole x.fraction) in
    ap value_of (digits_from-rest x 0 n e)
