-- Not a definition of the subject: what private calls on rules have and return.
use Rattle.std.specs.Prelude.{◌≡◌, ℕ, ◌%◌, ◌^◌, ◌==◌, ◌||◌, Bool, ◌-◌, ◌<◌, ◌≤◌, List, ◌++◌, Option, Some, None}
use Rattle.std.specs.Prelude.{slice_index, slice_index_or}
use Rattle.std.specs.Int.{w64, to_le_bytes}
use Rattle.plural_base.specs.declared.category.PluralCategory.{PluralCategory}
use Rattle.plural_base.specs.declared.category.PluralCategory.TheVariants.{Zero, One, Two, Few, Many, Other}
use Rattle.plural_base.specs.declared.rules.categories.Categories.TheInside.{Inside}
use Rattle.plural_base.specs.Categories.{place_of}
use Rattle.plural_base.specs.FiveRules.{listed}

-- the categories that an iterator has left: those whose flag is set
abbrev pub categories_left : Inside → List PluralCategory
categories_left c =
    listed Zero c.zero ++ listed One c.one ++ listed Two c.two ++ listed Few c.few ++ listed Many c.many
    ++ listed Other c.other

-- no modulus, or a divisor of 10 ^ 18
abbrev pub divides_ten_to_18 : ℕ → Bool
divides_ten_to_18 modulus = modulus == 0 || (10 ^ 18 % modulus == 0)

-- ---- The bytes that the tables of prepared rules are written as

-- the number of what an entry tells: 6 if that is nothing
abbrev pub entry_number : Option PluralCategory → ℕ
entry_number (Some category) = place_of category
entry_number None = 6

-- the byte at a place is that of the bound, of the low categories or of those by remainder
pub record IsTableByte (bound : ℕ) (low : List PluralCategory) (cycle : List (Option PluralCategory)) (place byte : ℕ) : Type 0 where
  pub bound_is : place < 8 → byte ≡ slice_index (to_le_bytes w64 bound) place
  pub low_is : 8 ≤ place → place < 136 → byte ≡ place_of (slice_index_or low (place - 8) Zero)
  pub cycle_is : 136 ≤ place → byte ≡ entry_number (slice_index_or cycle (place - 136) None)
