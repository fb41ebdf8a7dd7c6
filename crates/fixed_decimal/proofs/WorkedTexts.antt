-- Worked texts and a worked shift, by the definitions.
use Rattle.std.proofs.Common.{◌≡◌, ℕ, zero, suc, ◌+◌, ◌<◌, ◌≤◌, inr, [], ◌∷◌, refl, ap, length, length-append, ◌∙◌, codes, arith, negsuc}
use Rattle.std.proofs.Common.{lit<}
use Rattle.fixed_decimal.specs.Places.{Places, shift}
use Rattle.fixed_decimal.specs.Written.{CompactNumber, WritesUnsigned, WritesCompact}
use Rattle.fixed_decimal.specs.Inner.TextParts.{HasPointAt}
use Rattle.fixed_decimal.proofs.Points.{has_point}
use Rattle.fixed_decimal.proofs.Exponents.{exponent_short, no_letter_before}

-- `.50`: the integer digit is 0, and the last zero counts
no_integer_digit : WritesUnsigned (codes ".50") (record { whole = 0 ∷ []; fraction = 5 ∷ 0 ∷ [] })
no_integer_digit = record {
  digits = record { nonempty = lit< tt; whole = (lit< tt, tt); fraction = (lit< tt, (lit< tt, tt)) };
  form = inr (inr (lit< tt, refl, refl));
}

-- `5.`: a point has digits after it
no_fraction_digit : (x : Places) → WritesUnsigned (codes "5.") x → ⊥
no_fraction_digit x h = at (has_point (codes "5.") x h)
  where
    at : (n : ℕ) × HasPointAt (codes "5.") n → ⊥
    at (zero, p) = let e : 53 ≡ 46 = p.point (lit< tt) in omega (arith, e)
    at (suc zero, p) = let f : 2 < 2 = p.fraction (lit< tt) in omega arith
    at (suc (suc n), p) = let b : (48 ≤ 46) × (46 < 58) = p.before 1 (omega arith) (omega arith) in omega (arith, b.0)

-- `1c0256`: an exponent has three digits at most
four_exponent_digits : (x : CompactNumber) → WritesCompact (codes "1c0256") x → ⊥
four_exponent_digits x (front, rest, decimal, exponent, form) =
    let short : length rest ≤ 4 = exponent_short rest x.exponent exponent in
    let all : 6 ≡ length front + length rest = ap length form ∙ length-append front rest in
    no_letter_before (codes "1c0256") front rest x.significand decimal form 1 (omega arith) refl

-- 12345 by -2 is 123.45
two_to_the_left : shift (negsuc 1) (record { whole = 1 ∷ 2 ∷ 3 ∷ 4 ∷ 5 ∷ []; fraction = [] })
    ≡ record { whole = 1 ∷ 2 ∷ 3 ∷ []; fraction = 4 ∷ 5 ∷ [] }
two_to_the_left = refl
