-- Not a definition of the subject: the least numbers of each category among those that were looked
-- at.
use Rattle.std.specs.Prelude.{ℕ, Bool, true, false, IsTrue, Option, Some, None, is_some}
use Rattle.plural_base.specs.declared.category.PluralCategory.{PluralCategory}
use Rattle.plural_base.specs.declared.category.PluralCategory.TheVariants.{Zero, One, Two, Few, Many, Other}
use Rattle.plural_base.specs.FiveRules.{FiveRules}
use Rattle.number_categories.specs.WholeNumbers.{AreTwoBelow, AreTwoLeastFrom, HasWhole, IsLeastFrom, least_at}
use Rattle.number_categories.specs.declared.least_numbers.LeastNumbers.{LeastNumbers}
use Rattle.number_categories.specs.declared.sought.Sought.{Sought}
use Rattle.number_categories.specs.declared.two_numbers.TwoNumbers.{TwoNumbers}

abbrev pub no_numbers : TwoNumbers
no_numbers = record { first = None; second = None }

-- one number more, unless there are two
abbrev pub two_with : Option ℕ → Option ℕ → ℕ → TwoNumbers
two_with None second n = record { first = Some n; second = second }
two_with (Some first) None n = record { first = Some first; second = Some n }
two_with (Some first) (Some second) n = record { first = Some first; second = Some second }

abbrev pub with_number : TwoNumbers → ℕ → TwoNumbers
with_number two n = two_with two.first two.second n

-- there are two, or one where that is enough
abbrev pub are_enough : Bool → TwoNumbers → Bool
are_enough true two = is_some two.first
are_enough false two = is_some two.second

abbrev pub is_sought : Sought → PluralCategory → Bool
is_sought sought Zero = sought.categories.zero
is_sought sought One = sought.categories.one
is_sought sought Two = sought.categories.two
is_sought sought Few = sought.categories.few
is_sought sought Many = sought.categories.many
is_sought sought Other = sought.other

abbrev pub AreEnough : Sought → LeastNumbers → Type 0
AreEnough sought seen = (c : PluralCategory) → IsTrue (is_sought sought c) → IsTrue (are_enough sought.first_alone (least_at seen c))

-- the two least of each category below an end
pub record AreSeenBelow (rules : FiveRules) (start end : ℕ) (seen : LeastNumbers) : Type 0 where
  pub at : (c : PluralCategory) → AreTwoBelow (λ n. HasWhole rules c n) start end (least_at seen c).first (least_at seen c).second

abbrev pub IsFound : Bool → FiveRules → PluralCategory → ℕ → TwoNumbers → Type 0
IsFound true rules c start two = IsLeastFrom rules c start two.first
IsFound false rules c start two = AreTwoLeastFrom rules c start two

-- those of each category that is sought if any number has it
pub record AreFound (rules : FiveRules) (sought : Sought) (seen : LeastNumbers) : Type 0 where
  pub at : (c : PluralCategory) → ((n : ℕ) → HasWhole rules c n → IsTrue (is_sought sought c))
      → IsFound sought.first_alone rules c sought.start (least_at seen c)
