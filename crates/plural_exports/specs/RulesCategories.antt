-- The categories that a number may have under a block of rules, one bit each.
--     AreCategoriesOf rules answer      those that have a rule, and other, or the fault of the
--         rules
--     bits_number categories      the sum of their bits
use Rattle.std.specs.Prelude.{◌≡◌, ℕ, ℤ, pos, List, sum_by, Result, Ok, Err}
use Rattle.icu_plurals.specs.declared.PluralCategory.{PluralCategory}
use Rattle.icu_plurals.specs.declared.PluralCategory.TheVariants.{Zero, One, Two, Few, Many, Other}
use Rattle.icu_plurals.specs.FiveRules.{FiveRules, categories_of}
use Rattle.plural_exports.specs.GivenBytes.{ReadsRules}
use Rattle.plural_documents.specs.Steps.{Then}
use Rattle.plural_exports.specs.declared.fault.Fault.{Fault}

-- the bit whose place is the number of the category
abbrev pub category_bit : PluralCategory → ℕ
category_bit Zero = 1
category_bit One = 2
category_bit Two = 4
category_bit Few = 8
category_bit Many = 16
category_bit Other = 32

abbrev pub bits_number : List PluralCategory → ℤ
bits_number categories = pos (sum_by category_bit categories)

-- those that have a rule, from zero to many, then other
abbrev pub HasCategories : FiveRules → Result (List PluralCategory) Fault → Type 0
HasCategories rules (Ok categories) = categories ≡ categories_of rules
HasCategories rules (Err fault) = ⊥

abbrev pub AreCategoriesOf : List ℕ → Result (List PluralCategory) Fault → Type 0
AreCategoriesOf rules = Then (ReadsRules rules) HasCategories
