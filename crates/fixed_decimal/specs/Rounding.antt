-- Rounding to a place: the multiple of a power of ten that a mode chooses for a number, and how it
-- is written.
--     zeros_below k      how many integer places are below 10 to the power k
--     units_of x      the number as a count of units of its last place
--     IsChosen mode m unit a b      of the multiples of a unit, the mode chooses b, which is m
--         units, for a
--     IsRounded mode k x y      y is x rounded to a multiple of 10 to the power k, without a sign
--     mode_of_absolute sign mode      the mode for what follows a sign
use Rattle.std.specs.Prelude.{◌≡◌, ℕ, ◌+◌, ◌-◌, ◌*◌, ◌%◌, ◌^◌, ◌<◌, ◌≤◌, ℤ, pos, negsuc, ◌++◌, length, slice_index}
use Rattle.fixed_decimal.specs.Digits.{value_of}
use Rattle.fixed_decimal.specs.Places.{Places, IsWritten}
use Rattle.fixed_decimal.specs.FractionEnds.{places_down_to}
use Rattle.fixed_decimal.specs.declared.rounding.RoundingMode.{RoundingMode}
use Rattle.fixed_decimal.specs.declared.rounding.RoundingMode.TheVariants as mode
use Rattle.fixed_decimal.specs.declared.sign.Sign.{Sign}
use Rattle.fixed_decimal.specs.declared.sign.Sign.TheVariants as sign

-- none below 1 or a smaller power of ten
abbrev pub zeros_below : ℤ → ℕ
zeros_below (pos k) = k
zeros_below (negsuc k) = 0

-- all its digits, read as a whole number
abbrev pub units_of : Places → ℕ
units_of x = value_of (x.whole ++ x.fraction)

-- how far two numbers are apart
abbrev pub distance : ℕ → ℕ → ℕ
distance a b = (a - b) + (b - a)

-- b isn't above a, and less than a unit below it
pub record IsNextDown (unit a b : ℕ) : Type 0 where
  pub down : b ≤ a
  pub near : distance a b < unit

-- b isn't below a, and less than a unit above it
pub record IsNextUp (unit a b : ℕ) : Type 0 where
  pub up : a ≤ b
  pub near : distance a b < unit

-- half a unit away at most, and the tie decides where it is just half a unit
pub record IsNearest (tie : Type 0) (unit a b : ℕ) : Type 0 where
  pub near : 2 * distance a b ≤ unit
  pub halfway : 2 * distance a b ≡ unit → tie

-- a number without a sign is rounded up by Ceil as by Expand, and down by Floor as by Trunc
abbrev pub IsChosen : RoundingMode → (m unit a b : ℕ) → Type 0
IsChosen mode.HalfEven m unit a b = IsNearest (m % 2 ≡ 0) unit a b
IsChosen mode.HalfExpand m unit a b = IsNearest (a ≤ b) unit a b
IsChosen mode.Trunc m unit a b = IsNextDown unit a b
IsChosen mode.Expand m unit a b = IsNextUp unit a b
IsChosen mode.Ceil m unit a b = IsNextUp unit a b
IsChosen mode.Floor m unit a b = IsNextDown unit a b

-- Both numbers are counted in one unit: with f and g fraction digits, in 10 to the power -(f + g).
-- 10 to the power k is then a power of ten of such units, since g is as k says.
pub record IsRounded (mode : RoundingMode) (k : ℤ) (x y : Places) : Type 0 where
  pub written : IsWritten y
  pub fraction : length y.fraction ≡ places_down_to k
  pub no_leading_zero : slice_index y.whole 0 ≡ 0 → length y.whole ≡ 1
  pub multiple : ℕ
  pub is_multiple : units_of y * 10 ^ length x.fraction ≡ multiple * 10 ^ (zeros_below k + length x.fraction)
  pub chosen : IsChosen mode multiple (10 ^ (zeros_below k + length x.fraction))
      (units_of x * 10 ^ length y.fraction) (units_of y * 10 ^ length x.fraction)

-- of a negative number, up is towards zero, and down away from it
abbrev pub mode_of_absolute : Sign → RoundingMode → RoundingMode
mode_of_absolute sign.Negative mode.Ceil = mode.Trunc
mode_of_absolute sign.Negative mode.Floor = mode.Expand
mode_of_absolute s m = m

-- The statement of the law `numbers_have_one_rounding`: a mode and a place determine what a number
-- is rounded to, and how that is written.
abbrev pub OneRounding : Type 0
OneRounding = (m : RoundingMode) (k : ℤ) (x y z : Places) → IsRounded m k x y → IsRounded m k x z → y ≡ z
