-- The end of a fraction: zeros that are added there, and zeros that are cut.
--     places_down_to k      how many fraction places reach down to 10 to the power k
--     padded_to n x      zeros added to the fraction until it has n places; a longer one is kept
--     IsTrimmed x y      y is x without the zeros at the end of its fraction
use Rattle.std.specs.Prelude.{◌≡◌, ◌≢◌, ℕ, suc, ◌-◌, ◌<◌, ℤ, pos, negsuc, List, ◌++◌, length, replicate, slice_index}
use Rattle.fixed_decimal.specs.Places.{Places}

-- none down to 1 or a greater power of ten
abbrev pub places_down_to : ℤ → ℕ
places_down_to (pos k) = 0
places_down_to (negsuc k) = suc k

-- as many zeros as places are missing
abbrev pub padded_to : ℕ → Places → Places
padded_to n x = record x { fraction = x.fraction ++ replicate (n - length x.fraction) 0 }

-- x has some zeros more, and the last fraction digit of y, if there is one, isn't 0
pub record IsTrimmed (x y : Places) : Type 0 where
  pub whole : x.whole ≡ y.whole
  pub zeros : (n : ℕ) × (x.fraction ≡ y.fraction ++ replicate n 0)
  pub last : 0 < length y.fraction → slice_index y.fraction (length y.fraction - 1) ≢ 0
