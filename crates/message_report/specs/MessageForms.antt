-- The forms of a message, each under its key (docs/TRANSLATORS.md): of exactly 0 and 1, and of the
-- plural categories.
--     form_under form message      what a message has under the key of a form
--     Chooses rules category own_zero own_one n      the whole number chooses the category's form,
--         where 0 and 1 may have forms of their own (UTS 35 Part 3, Explicit 0 and 1 Rules)
use Rattle.std.specs.Prelude.{ℕ, Bool, ◌||◌, bytes_eq, List, [], ◌∷◌, Option, is_some, codes, ◌≢◌, IsTrue}
use Rattle.serde_json.specs.Data.{Data}
use Rattle.serde_json.specs.Find.{get}
use Rattle.icu_plurals.specs.Categories.{name_of}
use Rattle.icu_plurals.specs.declared.PluralCategory.TheVariants.{Zero, One, Two, Few, Many, Other}
use Rattle.message_report.specs.declared.form.Form.{Form}
use Rattle.message_report.specs.declared.form.Form.TheVariants.{ExplicitZero, ExplicitOne, Category}
use Rattle.icu_plurals.specs.declared.PluralCategory.{PluralCategory}
use Rattle.icu_plurals.specs.FiveRules.{FiveRules}
use Rattle.number_categories.specs.WholeNumbers.{HasWhole}
use Rattle.plural_checker.specs.declared.CategorySet.{CategorySet}

abbrev pub form_name : Form → List ℕ
form_name ExplicitZero = codes "explicit_zero"
form_name ExplicitOne = codes "explicit_one"
form_name (Category category) = name_of category

-- the order in which forms are looked at
abbrev pub form_order : List Form
form_order =
    ExplicitZero ∷ ExplicitOne ∷ Category Zero ∷ Category One ∷ Category Two ∷ Category Few ∷ Category Many ∷ Category Other ∷ []

-- the key of a form
abbrev pub is_form_name : List ℕ → Bool
is_form_name key =
    bytes_eq key (codes "explicit_zero") || bytes_eq key (codes "explicit_one") || bytes_eq key (name_of Zero)
    || bytes_eq key (name_of One) || bytes_eq key (name_of Two) || bytes_eq key (name_of Few) || bytes_eq key (name_of Many)
    || bytes_eq key (name_of Other)

abbrev pub form_under : Form → Data → Option Data
form_under form message = get (form_name form) message

abbrev pub has_form : Form → Data → Bool
has_form form message = is_some (form_under form message)

-- it has the category, and no form of its own
abbrev pub Chooses : FiveRules → PluralCategory → Bool → Bool → ℕ → Type 0
Chooses rules category own_zero own_one n =
    HasWhole rules category n × (IsTrue own_zero → n ≢ 0) × (IsTrue own_one → n ≢ 1)

-- ---- the set of the categories that a message has forms for; other is left out

-- the message has a form of the category
abbrev pub has_category : Data → PluralCategory → Bool
has_category message category = has_form (Category category) message

abbrev pub categories_in : Data → CategorySet
categories_in message = record {
  zero = has_category message Zero;
  one = has_category message One;
  two = has_category message Two;
  few = has_category message Few;
  many = has_category message Many;
}
