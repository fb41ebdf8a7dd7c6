-- Not a definition of the subject: remainders by 100 of which a table tells a category.
use Rattle.std.specs.Prelude.{◌≡◌, ◌+◌, ◌%◌, ◌≤◌, ◌<◌, ℕ, Bool, false, List, slice_index, slice_index_or, length, IsTrue, Some}
use Rattle.plural_base.specs.CategoryTables.{TableTells}
use Rattle.plural_base.specs.declared.category.PluralCategory.{PluralCategory}
use Rattle.plural_base.specs.FiveRules.{FiveRules}
use Rattle.number_categories.specs.WholeNumbers.{HasWhole, whole_limit}

-- a table tells each of 100 numbers that is marked
pub record AreMarked (bytes : List ℕ) (told : List Bool) : Type 0 where
  pub at : (r : ℕ) → r < 100 → IsTrue (slice_index_or told r false) → (c : PluralCategory) × TableTells bytes (128 + r) (Some c)

-- a number has the category of two numbers before it
pub record IsAsBefore (rules : FiveRules) (start n : ℕ) : Type 0 where
  pub category : PluralCategory
  pub before : ℕ
  pub from : start ≤ before
  pub apart : before + 100 < n
  pub first : HasWhole rules category before
  pub second : HasWhole rules category (before + 100)
  pub has : HasWhole rules category n

-- so has each number from one on whose remainder is marked
pub record AreToldFrom (rules : FiveRules) (start from : ℕ) (told : List Bool) : Type 0 where
  pub at : (n : ℕ) → from ≤ n → n < whole_limit → IsTrue (slice_index_or told ((n + 72) % 100) false) → IsAsBefore rules start n

-- of 100 numbers so many from each on are marked in a run
pub record AreRunsOf (told : List Bool) (runs : List ℕ) : Type 0 where
  pub all : length runs ≡ 100
  pub at : (r j : ℕ) → r < 100 → j < slice_index runs r → (r + j < 100) × IsTrue (slice_index_or told (r + j) false)

-- each number in a run that begins at one, or behind it, has the category of two before it
pub record AreRunsFrom (rules : FiveRules) (start from : ℕ) (runs : List ℕ) : Type 0 where
  pub at : (n j : ℕ) → from ≤ n → n + j < whole_limit → j < slice_index runs ((n + 72) % 100) → IsAsBefore rules start (n + j)
