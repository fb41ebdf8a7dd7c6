-- The whole numbers below a limit that have a category.
--     HasWhole rules category n      the rules choose the category for the whole number n
--     IsLeast Holds start found      the least number from a start, and below the limit, of which
--         something holds, if there is one
--     AreTwoLeastOf Holds first second      the two least ones, as far as there are two
--     IsLeastFrom rules category start found      the least one from a start that has the category
--     AreTwoLeast rules category first second      the two least ones that have it
--     AreLeastOfEach rules start least      the least one from a start of each category
--     AreTwoLeastOfEach rules start least      the two least ones of each
use Rattle.std.specs.Prelude.{◌≡◌, ◌+◌, ◌≤◌, ◌<◌, ℕ, Option, Some, None, ◌≢◌, List, ◌++◌, codes}
use Rattle.plural_base.specs.declared.category.PluralCategory.{PluralCategory}
use Rattle.plural_base.specs.declared.category.PluralCategory.TheVariants.{Zero, One, Two, Few, Many, Other}
use Rattle.plural_base.specs.FiveRules.{FiveRules, first_category}
use Rattle.plural_base.specs.Operands.{of_whole}
use Rattle.plural_base.specs.PackedTruth.{packed_truth}
use Rattle.number_categories.specs.declared.least_numbers.LeastNumbers.{LeastNumbers}
use Rattle.number_categories.specs.declared.two_numbers.TwoNumbers.{TwoNumbers}
use Rattle.fixed_decimal.specs.Written.{error_text}
use Rattle.plural_base.specs.Categories.{name_of}
use Rattle.number_categories.specs.declared.number_fault.NumberFault.{NumberFault}
use Rattle.number_categories.specs.declared.number_fault.NumberFault.TheVariants.{Text, Outside, Category}

-- the whole numbers that are looked at are those below this one
abbrev pub whole_limit : ℕ
whole_limit = 10000

-- the category is the first whose rule is present and true of the whole number, else other
abbrev pub HasWhole : FiveRules → PluralCategory → ℕ → Type 0
HasWhole rules category n = first_category (packed_truth (of_whole n)) rules ≡ category

-- ---- The least numbers

-- something holds of no number from a start up to an end, which isn't among them
abbrev pub HoldsNowhere : (ℕ → Type 0) → ℕ → ℕ → Type 0
HoldsNowhere Holds start end = (n : ℕ) → start ≤ n → n < end → ¬ (Holds n)

-- the least number from a start, and below an end, of which it holds, if there is one
abbrev pub IsLeastBelow : (ℕ → Type 0) → ℕ → ℕ → Option ℕ → Type 0
IsLeastBelow Holds start end None = HoldsNowhere Holds start end
IsLeastBelow Holds start end (Some n) = (start ≤ n) × (n < end) × Holds n × HoldsNowhere Holds start n

-- the second is the least one after the first; without a first there is none
abbrev pub AreTwoBelow : (ℕ → Type 0) → ℕ → ℕ → Option ℕ → Option ℕ → Type 0
AreTwoBelow Holds start end None second = IsLeastBelow Holds start end None × (second ≡ None)
AreTwoBelow Holds start end (Some first) second = IsLeastBelow Holds start end (Some first) × IsLeastBelow Holds (first + 1) end second

abbrev pub IsLeast : (ℕ → Type 0) → ℕ → Option ℕ → Type 0
IsLeast Holds start found = IsLeastBelow Holds start whole_limit found

abbrev pub AreTwoLeastOf : (ℕ → Type 0) → Option ℕ → Option ℕ → Type 0
AreTwoLeastOf Holds first second = AreTwoBelow Holds 0 whole_limit first second

-- ---- Those that have a category

abbrev pub IsLeastFrom : FiveRules → PluralCategory → ℕ → Option ℕ → Type 0
IsLeastFrom rules category start found = IsLeast (λ n. HasWhole rules category n) start found

abbrev pub AreTwoLeast : FiveRules → PluralCategory → Option ℕ → Option ℕ → Type 0
AreTwoLeast rules category first second = AreTwoLeastOf (λ n. HasWhole rules category n) first second

-- the two least ones from a start
abbrev pub AreTwoLeastFrom : FiveRules → PluralCategory → ℕ → TwoNumbers → Type 0
AreTwoLeastFrom rules category start two = AreTwoBelow (λ n. HasWhole rules category n) start whole_limit two.first two.second

-- ---- Those of each category

abbrev pub least_at : LeastNumbers → PluralCategory → TwoNumbers
least_at least Zero = least.five.zero
least_at least One = least.five.one
least_at least Two = least.five.two
least_at least Few = least.five.few
least_at least Many = least.five.many
least_at least Other = least.other

pub record AreLeastOfEach (rules : FiveRules) (start : ℕ) (least : LeastNumbers) : Type 0 where
  pub at : (c : PluralCategory) → IsLeastFrom rules c start (least_at least c).first

pub record AreTwoLeastOfEach (rules : FiveRules) (start : ℕ) (least : LeastNumbers) : Type 0 where
  pub at : (c : PluralCategory) → AreTwoLeastFrom rules c start (least_at least c)

-- ---- a number that is listed under a category, and what is wrong with it

-- none if the number is listed under the category that is chosen for it
abbrev pub IsCategoryFault : PluralCategory → PluralCategory → Option NumberFault → Type 0
IsCategoryFault category chosen None = chosen ≡ category
IsCategoryFault category chosen (Some (Category other)) = (other ≡ chosen) × (other ≢ category)
IsCategoryFault category chosen (Some fault) = ⊥

abbrev pub wrong_number_text : NumberFault → List ℕ
wrong_number_text (Text error) = codes ": " ++ error_text error
wrong_number_text Outside = codes " is outside the exactness bound"
wrong_number_text (Category category) = codes " is " ++ name_of category
