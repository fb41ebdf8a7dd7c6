-- Not a definition of the subject: sets of the numbers below 128 as bits, and what is told of 128
-- classes of numbers at once.
use Rattle.std.specs.Prelude.{◌≡◌, ℕ, ◌==◌, Bool, not, true}
use Rattle.std.specs.Int.{bit_at}
use Rattle.plural_base.specs.declared.rules.told_masks.Told.{Told}

-- a mask has a number
unfoldable pub has_bit : ℕ → ℕ → Bool
has_bit mask k = bit_at mask k == 1

-- What is told of a class: by `yes` that something is surely true of its numbers, by `no` that it
-- can't be. What is surely true may be.
pub record IsToldAt (class : ℕ) (sure maybe : Bool) (told : Told) : Type 0 where
  pub yes : has_bit told.yes class ≡ sure
  pub no : has_bit told.no class ≡ not maybe
  pub order : sure ≡ true → maybe ≡ true
