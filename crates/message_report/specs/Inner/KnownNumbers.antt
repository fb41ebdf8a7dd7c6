-- Not a definition of the subject: what is known of the numbers of a category, and the two that
-- choose its form.
use Rattle.std.specs.Prelude.{◌↔◌, ◌&&◌, not, Bool, true, false, IsTrue, Some}
use Rattle.icu_plurals.specs.declared.PluralCategory.{PluralCategory}
use Rattle.icu_plurals.specs.FiveRules.{FiveRules}
use Rattle.number_categories.specs.WholeNumbers.{AreTwoLeastFrom, HasWhole}
use Rattle.message_report.specs.declared.category_numbers.CategoryNumbers.{CategoryNumbers}
use Rattle.number_categories.specs.declared.two_numbers.TwoNumbers.{TwoNumbers}

pub record AreNumbersOf (rules : FiveRules) (category : PluralCategory) (numbers : CategoryNumbers) : Type 0 where
  pub zero : IsTrue numbers.zero ↔ HasWhole rules category 0
  pub one : IsTrue numbers.one ↔ HasWhole rules category 1
  pub from_two : AreTwoLeastFrom rules category 2 numbers.from_two

-- by whether 0 and 1 choose the form
abbrev pub chosen_by : Bool → Bool → TwoNumbers → TwoNumbers
chosen_by true true from_two = record { first = Some 0; second = Some 1 }
chosen_by true false from_two = record { first = Some 0; second = from_two.first }
chosen_by false true from_two = record { first = Some 1; second = from_two.first }
chosen_by false false from_two = from_two

abbrev pub chosen_of : CategoryNumbers → Bool → Bool → TwoNumbers
chosen_of numbers own_zero own_one = chosen_by (numbers.zero && not own_zero) (numbers.one && not own_one) numbers.from_two
