-- Worked roundings, by the definitions.
use Rattle.std.proofs.Common.{◌≡◌, ℕ, ◌<◌, ◌≤◌, [], ◌∷◌, refl, ap, get_or, arith, lit<, pos, negsuc}
use Rattle.fixed_decimal.specs.Places.{Places}
use Rattle.fixed_decimal.specs.Rounding.{IsRounded, mode_of_absolute}
use Rattle.fixed_decimal.specs.declared.rounding.RoundingMode.TheVariants as mode
use Rattle.fixed_decimal.specs.declared.sign.Sign.TheVariants as sign
use Rattle.fixed_decimal.proofs.OneRounding.{one_rounding}

abbrev two_and_a_half : Places
two_and_a_half = record { whole = 2 ∷ []; fraction = 5 ∷ [] }

abbrev two : Places
two = record { whole = 2 ∷ []; fraction = [] }

abbrev three : Places
three = record { whole = 3 ∷ []; fraction = [] }

-- 2.5 is rounded to the even 2 ..
to_even : IsRounded mode.HalfEven (pos 0) two_and_a_half two
to_even = record {
  written = record { nonempty = lit< tt; whole = (lit< tt, tt); fraction = tt };
  fraction = refl;
  no_leading_zero = λ e. refl;
  multiple = 2;
  is_multiple = refl;
  chosen = record { near = omega arith; halfway = λ e. refl };
}

-- .. so not to 3,
not_to_odd : IsRounded mode.HalfEven (pos 0) two_and_a_half three → ⊥
not_to_odd h =
    let e : three ≡ two = one_rounding mode.HalfEven (pos 0) two_and_a_half three two h to_even in
    let d : 3 ≡ 2 = ap (λ (x : Places). get_or x.whole 0 0) e in
    omega (arith, d)

-- and by HalfExpand to 3,
away_from_zero : IsRounded mode.HalfExpand (pos 0) two_and_a_half three
away_from_zero = record {
  written = record { nonempty = lit< tt; whole = (lit< tt, tt); fraction = tt };
  fraction = refl;
  no_leading_zero = λ e. refl;
  multiple = 3;
  is_multiple = refl;
  chosen = record { near = omega arith; halfway = λ e. omega arith };
}

-- -2.5 goes up to -2.
negative_up : IsRounded (mode_of_absolute sign.Negative mode.Ceil) (pos 0) two_and_a_half two
negative_up = record {
  written = record { nonempty = lit< tt; whole = (lit< tt, tt); fraction = tt };
  fraction = refl;
  no_leading_zero = λ e. refl;
  multiple = 2;
  is_multiple = refl;
  chosen = record { down = omega arith; near = omega arith };
}

-- 9.96 to tenths is 10.0.
carried : IsRounded mode.HalfEven (negsuc 0) (record { whole = 9 ∷ []; fraction = 9 ∷ 6 ∷ [] })
    (record { whole = 1 ∷ 0 ∷ []; fraction = 0 ∷ [] })
carried = record {
  written = record { nonempty = lit< tt; whole = (lit< tt, (lit< tt, tt)); fraction = (lit< tt, tt) };
  fraction = refl;
  no_leading_zero = λ e. absurd (omega (arith, e));
  multiple = 100;
  is_multiple = refl;
  chosen = record { near = omega arith; halfway = λ e. refl };
}

-- 42 away from zero to hundreds is 100.
hundreds : IsRounded mode.Expand (pos 2) (record { whole = 4 ∷ 2 ∷ []; fraction = [] })
    (record { whole = 1 ∷ 0 ∷ 0 ∷ []; fraction = [] })
hundreds = record {
  written = record { nonempty = lit< tt; whole = (lit< tt, (lit< tt, (lit< tt, tt))); fraction = tt };
  fraction = refl;
  no_leading_zero = λ e. absurd (omega (arith, e));
  multiple = 1;
  is_multiple = refl;
  chosen = record { up = omega arith; near = omega arith };
}
