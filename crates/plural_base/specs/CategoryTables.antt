-- A table of the categories of integers, as 236 bytes (docs/FORMATS.md): eight of the bound, low
-- byte first, an entry for each number below 128, and one for each remainder by 100.
--     TableTells bytes n told      what such bytes tell of a number
--     IsTableOf rules bytes      the bytes are a table of rules
use Rattle.std.specs.Prelude.{◌≡◌, ℕ, ◌+◌, ◌%◌, ◌<◌, ◌≤◌, ◌⊎◌, List, length, slice_index, Option, Some, None}
use Rattle.std.specs.Int.{w64, from_le_bytes}
use Rattle.plural_operands.specs.Operands.{of_whole}
use Rattle.plural_runtime.specs.PackedTruth.{packed_truth}
use Rattle.plural_base.specs.declared.category.PluralCategory.{PluralCategory}
use Rattle.plural_base.specs.Categories.{place_of}
use Rattle.plural_base.specs.FiveRules.{FiveRules, first_category}

-- the number in the first eight bytes, low byte first
abbrev pub table_bound : List ℕ → ℕ
table_bound bytes = from_le_bytes w64 bytes

-- an entry tells a category by its number; one above 5 tells none
abbrev pub EntryTells : ℕ → Option PluralCategory → Type 0
EntryTells entry (Some category) = entry ≡ place_of category
EntryTells entry None = 5 < entry

-- What bytes tell of a number: below 128 by its own entry, from the bound on by that of its
-- remainder, and nothing between.
pub record TableTells (bytes : List ℕ) (n : ℕ) (told : Option PluralCategory) : Type 0 where
  pub low : n < 128 → EntryTells (slice_index bytes (8 + n)) told
  pub between : 128 ≤ n → n < table_bound bytes → told ≡ None
  pub cycle : 128 ≤ n → table_bound bytes ≤ n → EntryTells (slice_index bytes (136 + n % 100)) told

-- the number of the category that rules choose for an integer
abbrev pub integer_entry : FiveRules → ℕ → ℕ
integer_entry rules n = place_of (first_category (packed_truth (of_whole n)) rules)

-- The entry of a number below 128 is its category's number; that of a remainder is the number of
-- the category of all numbers from the bound on that leave it, or 6: then the rules are asked.
pub record IsTableOf (rules : FiveRules) (bytes : List ℕ) : Type 0 where
  pub size : length bytes ≡ 236
  pub low : (n : ℕ) → n < 128 → slice_index bytes (8 + n) ≡ integer_entry rules n
  pub cycle : (n : ℕ) → table_bound bytes ≤ n
      → (slice_index bytes (136 + n % 100) ≡ integer_entry rules n) ⊎ (slice_index bytes (136 + n % 100) ≡ 6)
