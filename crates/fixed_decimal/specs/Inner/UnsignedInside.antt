-- Not a definition of the subject: how an unsigned decimal is stored, as the digits from the
-- highest nonzero one to the lowest nonzero one, and how many zeros are before them among the
-- written places.
--     places_of a      the number that is stored so
--     IsSpan a      what holds of each stored number
use Rattle.std.specs.Prelude.{◌≢◌, ℕ, ◌+◌, ◌-◌, ◌<◌, ◌≤◌, List, ◌++◌, length, take, drop, replicate, slice_index}
use Rattle.fixed_decimal.specs.Digits.{AreDigits}
use Rattle.fixed_decimal.specs.Places.{Places, most_places}
use Rattle.fixed_decimal.specs.declared.unsigned.UnsignedDecimal.TheInside.{Inside}

-- all written digits
abbrev pub digits_of : Inside → List ℕ
digits_of a =
    replicate a.leading_zeros 0 ++ a.span.items
    ++ replicate (a.whole_places + a.fraction_places - (a.leading_zeros + length a.span.items)) 0

-- ... cut at the point
abbrev pub places_of : Inside → Places
places_of a = record { whole = take a.whole_places (digits_of a); fraction = drop a.whole_places (digits_of a) }

-- the limits, the places of the span, and its nonzero ends
pub record IsSpan (a : Inside) : Type 0 where
  pub whole_nonempty : 0 < a.whole_places
  pub whole_within : a.whole_places ≤ most_places
  pub fraction_within : a.fraction_places ≤ most_places
  pub inside : a.leading_zeros + length a.span.items ≤ a.whole_places + a.fraction_places
  pub digits : AreDigits a.span.items
  pub first_nonzero : 0 < length a.span.items → slice_index a.span.items 0 ≢ 0
  pub last_nonzero : 0 < length a.span.items → slice_index a.span.items (length a.span.items - 1) ≢ 0
