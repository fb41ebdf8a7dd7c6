-- The line by which gettext's files number the forms of a language: how many forms whole numbers
-- have, and an expression of C for the place of a number's form among them.
--     IsGettextLine rules text      the line of a language
--     FormsAreChosen      of a whole number whose category has a form, the place is that of this
--         form
use Rattle.std.specs.Prelude.{◌≡◌, ◌⊎◌, ◌<◌, ℕ, List, [], ◌∷◌, ◌++◌, length, codes, Option, Some, None, slice_get}
use Rattle.std.specs.Fmt.{decimal}
use Rattle.icu_plurals.specs.FiveRules.{FiveRules, categories_of, first_category}
use Rattle.icu_plurals.specs.Operands.{of_whole}
use Rattle.icu_plurals.specs.PackedRelations.{PackedRelation}
use Rattle.icu_plurals.specs.PackedTruth.{packed_truth}
use Rattle.icu_plurals.specs.declared.PluralCategory.{PluralCategory}
use Rattle.icu_plurals.specs.declared.PluralCategory.TheVariants.{Zero, One, Two, Few, Many, Other}
use Rattle.number_categories.specs.WholeNumbers.{HasWhole, whole_limit}
use Rattle.form_commands.specs.CExpressions.{Atom, choice_text, choice_value}
use Rattle.form_commands.specs.RuleConditions.{rule_condition_of}

-- ---- The forms

-- the powers of ten that are tried
abbrev pub tried_powers : List ℕ
tried_powers = 10000 ∷ 100000 ∷ 1000000 ∷ 10000000 ∷ 100000000 ∷ 1000000000 ∷ []

-- one of these numbers has the category
abbrev pub SomeHas : FiveRules → PluralCategory → List ℕ → Type 0
SomeHas rules category [] = ⊥
SomeHas rules category (n ∷ ns) = HasWhole rules category n ⊎ SomeHas rules category ns

-- a category has a form if a whole number below the limit has it, or a power of ten that is tried
abbrev pub HasForm : FiveRules → PluralCategory → Type 0
HasForm rules category = ((n : ℕ) × (n < whole_limit) × HasWhole rules category n) ⊎ SomeHas rules category tried_powers

-- those of some categories that have a form, in their order
abbrev pub AreFormsOf : FiveRules → List PluralCategory → List PluralCategory → Type 0
AreFormsOf rules [] forms = forms ≡ []
AreFormsOf rules (category ∷ categories) forms =
    (rest : List PluralCategory) × AreFormsOf rules categories rest
    × ((HasForm rules category × (forms ≡ category ∷ rest)) ⊎ (¬ (HasForm rules category) × (forms ≡ rest)))

-- ---- Their conditions

-- the rule of a category; other has none
abbrev pub rule_for : FiveRules → PluralCategory → Option (List PackedRelation)
rule_for rules Zero = rules.zero
rule_for rules One = rules.one
rule_for rules Two = rules.two
rule_for rules Few = rules.few
rule_for rules Many = rules.many
rule_for rules Other = None

-- no whole number has a rule that isn't there
abbrev pub condition_if : Option (List PackedRelation) → List (List Atom)
condition_if None = []
condition_if (Some relations) = rule_condition_of relations

-- of each form but the last, which has all numbers that are left
abbrev pub conditions_of : FiveRules → List PluralCategory → List (List (List Atom))
conditions_of rules [] = []
conditions_of rules (form ∷ []) = []
conditions_of rules (form ∷ next ∷ forms) = condition_if (rule_for rules form) ∷ conditions_of rules (next ∷ forms)

-- ---- The line

abbrev pub line_text : ℕ → List ℕ → List ℕ
line_text count expression =
    codes "Plural-Forms: nplurals=" ++ (decimal count ++ (codes "; plural=(" ++ (expression ++ codes ");\n")))

abbrev pub IsGettextLine : FiveRules → List ℕ → Type 0
IsGettextLine rules text =
    (forms : List PluralCategory) × AreFormsOf rules (categories_of rules) forms
    × (text ≡ line_text (length forms) (choice_text 0 (conditions_of rules forms)))

-- ---- What it means

-- the category of a whole number
abbrev pub whole_category : FiveRules → ℕ → PluralCategory
whole_category rules n = first_category (packed_truth (of_whole n)) rules

-- the form at the expression's value is the number's category
abbrev pub FormsAreChosen : Type 0
FormsAreChosen =
    (rules : FiveRules) (forms : List PluralCategory) (n : ℕ) → AreFormsOf rules (categories_of rules) forms
    → HasForm rules (whole_category rules n)
    → slice_get forms (choice_value 0 n (conditions_of rules forms)) ≡ Some (whole_category rules n)
