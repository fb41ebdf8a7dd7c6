-- Not a definition of the subject: how the stored digits of a number are rounded, for private
-- contracts. The digits end with one that isn't 0; so many of them, from the first on, are at the
-- place or above, which is `kept`, or all are below it, and so many zeros are between, which is
-- `gap`.
--     IsRest rest r unit      what is cut is r, of a unit of the place
--     goes_up mode rest odd      whether the mode takes the multiple above
--     IsRoundedEnd mode ds kept gap end up      the first `end` digits stay, and the last of them
--         is one more if it goes up, or 1 is before them if none stays
use Rattle.std.specs.Prelude.{◌≡◌, ◌≢◌, ℕ, zero, suc, ◌+◌, ◌-◌, ◌*◌, ◌%◌, ◌^◌, ◌<◌, ◌≤◌, Bool, true, false, if◌then◌else◌, List, [], ◌∷◌}
use Rattle.std.specs.Prelude.{◌++◌, eqb, length, take, drop, slice_index}
use Rattle.fixed_decimal.specs.Digits.{value_of}
use Rattle.fixed_decimal.specs.declared.rounding.RoundingMode.{RoundingMode}
use Rattle.fixed_decimal.specs.declared.rounding.RoundingMode.TheVariants as mode
use Rattle.fixed_decimal.specs.declared.rounding.Rest.{Rest}
use Rattle.fixed_decimal.specs.declared.rounding.Rest.TheVariants as rest

-- beside half of it
abbrev pub IsRest : Rest → ℕ → ℕ → Type 0
IsRest rest.Nothing r unit = r ≡ 0
IsRest rest.BelowHalf r unit = (0 < r) × (2 * r < unit)
IsRest rest.Half r unit = 2 * r ≡ unit
IsRest rest.AboveHalf r unit = (unit < 2 * r) × (r < unit)

-- something is cut
abbrev pub is_some_rest : Rest → Bool
is_some_rest rest.Nothing = false
is_some_rest rest.BelowHalf = true
is_some_rest rest.Half = true
is_some_rest rest.AboveHalf = true

-- half or more is cut; a half counts as more if `tie`
abbrev pub is_large_rest : Bool → Rest → Bool
is_large_rest tie rest.Nothing = false
is_large_rest tie rest.BelowHalf = false
is_large_rest tie rest.Half = tie
is_large_rest tie rest.AboveHalf = true

abbrev pub goes_up : RoundingMode → Rest → Bool → Bool
goes_up mode.HalfEven r odd = is_large_rest odd r
goes_up mode.HalfExpand r odd = is_large_rest true r
goes_up mode.Trunc r odd = false
goes_up mode.Expand r odd = is_some_rest r
goes_up mode.Ceil r odd = is_some_rest r
goes_up mode.Floor r odd = false

-- the last digit is odd
abbrev pub IsOdd : List ℕ → Bool → Type 0
IsOdd ds odd = value_of ds % 2 ≡ (if odd then 1 else 0)

-- the digits from the end on are all d, and the one before isn't
pub record IsEndBefore (ds : List ℕ) (d end : ℕ) : Type 0 where
  pub most : end ≤ length ds
  pub run : (k : ℕ) → end ≤ k → k < length ds → slice_index ds k ≡ d
  pub other : 0 < end → slice_index ds (end - 1) ≢ d

-- nines at the end are carried, and zeros aren't stored
abbrev pub run_digit : Bool → ℕ
run_digit up = (if up then 9 else 0)

pub record IsRoundedEnd (mode : RoundingMode) (ds : List ℕ) (kept gap end : ℕ) (up : Bool) : Type 0 where
  pub rest : Rest
  pub odd : Bool
  pub is_rest : IsRest rest (value_of (drop kept ds)) (10 ^ (length ds - kept + gap))
  pub is_odd : IsOdd (take kept ds) odd
  pub is_up : up ≡ goes_up mode rest odd
  pub is_end : IsEndBefore (take kept ds) (run_digit up) end

-- the last digit of those that go up
abbrev pub raised : ℕ → List ℕ → ℕ
raised zero ds = 1
raised (suc i) ds = slice_index ds i + 1

-- the digits that are stored then
abbrev pub rounded_digits : Bool → ℕ → List ℕ → List ℕ
rounded_digits up end ds = (if up then take (end - 1) ds ++ raised end ds ∷ [] else take end ds)

-- how many places there are from the first of them to the point or the last fraction place
abbrev pub rounded_places : Bool → ℕ → ℕ → ℕ → ℕ
rounded_places up zero kept zeros = (if up then kept + 1 + zeros else 0)
rounded_places up (suc end) kept zeros = kept + zeros
