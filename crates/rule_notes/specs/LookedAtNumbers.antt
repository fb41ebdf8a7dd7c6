-- The numbers that are looked at: 0 to 9999, 0.0 to 99.9 and 0.00 to 99.99.
--     HasDecimal places parts o      the operands of parts / 10^places, shown with so many places
--     IsLookedAt o      the operands of a number that is looked at
use Rattle.std.specs.Prelude.{◌≡◌, ◌⊎◌, ℕ, ◌*◌, ◌/◌, ◌%◌, ◌^◌, ◌<◌}
use Rattle.plural_operands.specs.Operands.{HasFraction, Operands, of_whole}

pub record HasDecimal (places parts : ℕ) (o : Operands) : Type 0 where
  pub whole : o.i ≡ parts / 10 ^ places
  pub fraction : HasFraction o places (parts % 10 ^ places)
  pub no_exponent : o.c ≡ 0

-- a decimal below 100 with these places
abbrev pub IsDecimal : ℕ → Operands → Type 0
IsDecimal places o = (parts : ℕ) × (parts < 100 * 10 ^ places) × HasDecimal places parts o

abbrev pub IsWhole : Operands → Type 0
IsWhole o = (n : ℕ) × (n < 10000) × (o ≡ of_whole n)

abbrev pub IsLookedAt : Operands → Type 0
IsLookedAt o = IsWhole o ⊎ (IsDecimal 1 o ⊎ IsDecimal 2 o)
