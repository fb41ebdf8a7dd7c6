-- What is wrong with a form of a message, under the rules of its language.
--     IsLanguageOf rules IsText language      what the rules say of categories and of the numbers
--         that choose their forms, and their texts of samples
--     HasFormFault language form message fault      the fault of a form in a message, if it has
--         one; without a language only that it has no text
--     told_of needs_number fault      the fault, unless it is that a form lacks a number which it
--         doesn't need
use Rattle.std.specs.Prelude.{◌≡◌, ◌⊎◌, ℕ, Bool, true, false, IsTrue, IsFalse, List, ◌++◌, codes, Option, Some, None, is_some, option_map, if◌then◌else◌}
use Rattle.std.specs.Fmt.{decimal}
use Rattle.std.specs.Str.Iter.{HasSubslice}
use Rattle.serde_json.specs.Data.{Data}
use Rattle.serde_json.specs.Find.{as_str}
use Rattle.icu_plurals.specs.declared.PluralCategory.{PluralCategory}
use Rattle.icu_plurals.specs.declared.PluralCategory.TheVariants.{Zero, One, Two, Few, Many, Other}
use Rattle.icu_plurals.specs.Categories.{name_of}
use Rattle.icu_plurals.specs.FiveRules.{FiveRules}
use Rattle.plural_message.specs.Messages.{placeholder}
use Rattle.plural_checker.specs.FirstSamples.{AreFirstSamples, kept_sample_text}
use Rattle.plural_checker.specs.declared.Sample.{Sample}
use Rattle.number_categories.specs.WholeNumbers.{AreTwoLeastOf}
use Rattle.message_report.specs.MessageForms.{Chooses, form_under, has_form}
use Rattle.number_categories.specs.declared.two_numbers.TwoNumbers.{TwoNumbers}
use Rattle.message_report.specs.declared.fault.FormFault.{FormFault}
use Rattle.message_report.specs.declared.fault.FormFault.TheVariants.{NoText, Unused, NoNumber, Missing, MissingRare}
use Rattle.message_report.specs.declared.form.Form.{Form}
use Rattle.message_report.specs.declared.form.Form.TheVariants.{ExplicitZero, ExplicitOne, Category}
use Rattle.message_report.specs.declared.rare_samples.TwoSamples.{TwoSamples}

-- ---- A language

-- a language has the categories that have a rule, and other
abbrev pub has_category_rule : FiveRules → PluralCategory → Bool
has_category_rule rules Zero = is_some rules.zero
has_category_rule rules One = is_some rules.one
has_category_rule rules Two = is_some rules.two
has_category_rule rules Few = is_some rules.few
has_category_rule rules Many = is_some rules.many
has_category_rule rules Other = true

-- the categories that it has; the two least whole numbers that choose the form of one of these, where
-- 0 and 1 may have forms of their own; and the first samples of one that no whole number has
pub record Language : Type 0 where
  pub has : PluralCategory → Bool
  pub numbers : PluralCategory → Bool → Bool → TwoNumbers
  pub samples : PluralCategory → TwoSamples

pub record HasNumbersOf (rules : FiveRules) (language : Language) : Type 0 where
  pub has : (category : PluralCategory) → language.has category ≡ has_category_rule rules category
  pub numbers : (category : PluralCategory) → IsTrue (language.has category) → (own_zero own_one : Bool)
      → AreTwoLeastOf (Chooses rules category own_zero own_one)
      (language.numbers category own_zero own_one).first (language.numbers category own_zero own_one).second

abbrev pub no_samples : TwoSamples
no_samples = record { first = None; second = None }

-- those of the category's text, if it has one
abbrev pub AreSamplesIn : FiveRules → PluralCategory → Option (List ℕ) → TwoSamples → Type 0
AreSamplesIn rules category None samples = samples ≡ no_samples
AreSamplesIn rules category (Some text) samples = AreFirstSamples rules category text samples.first samples.second

-- by the least whole number of the category: none of one that has such a number
abbrev pub AreRareSamples : FiveRules → (PluralCategory → Option (List ℕ) → Type 0) → PluralCategory → Option ℕ → TwoSamples → Type 0
AreRareSamples rules IsText category (Some least) samples = samples ≡ no_samples
AreRareSamples rules IsText category None samples =
    (text : Option (List ℕ)) × IsText category text × AreSamplesIn rules category text samples

-- under rules whose texts these are
pub record IsLanguageOf (rules : FiveRules) (IsText : PluralCategory → Option (List ℕ) → Type 0) (language : Language) : Type 0 where
  pub numbers : HasNumbersOf rules language
  pub samples : (category : PluralCategory) → IsTrue (language.has category)
      → AreRareSamples rules IsText category (language.numbers category false false).first (language.samples category)

-- those that choose it in a message
abbrev pub numbers_in : Language → PluralCategory → Data → TwoNumbers
numbers_in language category message = language.numbers category (has_form ExplicitZero message) (has_form ExplicitOne message)

-- ---- The fault of a form

-- a text needs the number if two numbers choose it
abbrev pub no_number : PluralCategory → Option ℕ → Option ℕ → Option FormFault
no_number category None second = None
no_number category (Some first) None = None
no_number category (Some first) (Some second) = Some (NoNumber category first second)

abbrev pub HasFormTextFault : PluralCategory → TwoNumbers → List ℕ → Option FormFault → Type 0
HasFormTextFault category numbers text fault =
    (HasSubslice text placeholder × (fault ≡ None))
    ⊎ ((¬ (HasSubslice text placeholder)) × (fault ≡ no_number category numbers.first numbers.second))

abbrev pub HasTextFaultIfText : PluralCategory → TwoNumbers → Option (List ℕ) → Option FormFault → Type 0
HasTextFaultIfText category numbers None fault = fault ≡ Some NoText
HasTextFaultIfText category numbers (Some text) fault = HasFormTextFault category numbers text fault

-- of a value that numbers choose
abbrev pub HasPresentFault : PluralCategory → TwoNumbers → Data → Option FormFault → Type 0
HasPresentFault category numbers value fault = HasTextFaultIfText category numbers (as_str value) fault

-- that a form is missing, by the numbers that would choose it; without these by samples
abbrev pub missing_form : PluralCategory → Option ℕ → Option ℕ → TwoSamples → FormFault
missing_form category (Some first) second samples = Missing category first second
missing_form category None second samples = MissingRare category samples.first samples.second

-- a form that is there should be chosen by a number, and one of the language should be there
abbrev pub HasFaultUnder : Language → PluralCategory → TwoNumbers → Option Data → Option FormFault → Type 0
HasFaultUnder language category numbers None fault =
    fault ≡ (if language.has category then Some (missing_form category numbers.first numbers.second (language.samples category)) else None)
HasFaultUnder language category numbers (Some value) fault =
    (IsTrue (language.has category) × HasPresentFault category numbers value fault)
    ⊎ (IsFalse (language.has category) × (fault ≡ Some (Unused category)))

abbrev pub HasCategoryFault : Language → PluralCategory → Data → Option FormFault → Type 0
HasCategoryFault language category message fault =
    HasFaultUnder language category (numbers_in language category message) (form_under (Category category) message) fault

-- a value that is there should be a text
abbrev pub form_value_fault : Option Data → Option FormFault
form_value_fault None = None
form_value_fault (Some value) = if is_some (as_str value) then None else Some NoText

abbrev pub HasFormFault : Option Language → Form → Data → Option FormFault → Type 0
HasFormFault language ExplicitZero message fault = fault ≡ form_value_fault (form_under ExplicitZero message)
HasFormFault language ExplicitOne message fault = fault ≡ form_value_fault (form_under ExplicitOne message)
HasFormFault None (Category category) message fault = fault ≡ form_value_fault (form_under (Category category) message)
HasFormFault (Some language) (Category category) message fault = HasCategoryFault language category message fault

-- of a fault: no form needs a number that the source of its message lacks
abbrev pub told_of : Bool → FormFault → Option FormFault
told_of needs_number NoText = Some NoText
told_of needs_number (Unused category) = Some (Unused category)
told_of needs_number (NoNumber category first second) = if needs_number then Some (NoNumber category first second) else None
told_of needs_number (Missing category first second) = Some (Missing category first second)
told_of needs_number (MissingRare category first second) = Some (MissingRare category first second)

-- ---- The texts of faults

-- `1 and 21 are one`
abbrev pub are_text : ℕ → ℕ → PluralCategory → List ℕ
are_text first second category = decimal first ++ (codes " and " ++ (decimal second ++ (codes " are " ++ name_of category)))

-- `missing, but 1000000 and 1c6 are many`
abbrev pub missing_text : PluralCategory → Option (List ℕ) → Option (List ℕ) → List ℕ
missing_text category None second = codes "missing"
missing_text category (Some first) None = codes "missing, but " ++ (first ++ (codes " is " ++ name_of category))
missing_text category (Some first) (Some second) =
    codes "missing, but " ++ (first ++ (codes " and " ++ (second ++ (codes " are " ++ name_of category))))

-- of numbers
abbrev pub missing_numbers_text : PluralCategory → ℕ → Option ℕ → List ℕ
missing_numbers_text category first second = missing_text category (Some (decimal first)) (option_map decimal second)

-- of samples
abbrev pub missing_samples_text : PluralCategory → Option Sample → Option Sample → List ℕ
missing_samples_text category first second = missing_text category (option_map kept_sample_text first) (option_map kept_sample_text second)

abbrev pub form_fault_text : FormFault → List ℕ
form_fault_text NoText = codes "no text"
form_fault_text (Unused category) = codes "no number is " ++ name_of category
form_fault_text (NoNumber category first second) = codes "no {}, but " ++ are_text first second category
form_fault_text (Missing category first second) = missing_numbers_text category first second
form_fault_text (MissingRare category first second) = missing_samples_text category first second
