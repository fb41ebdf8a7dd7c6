-- Not a definition of the subject: what private calls return under rules that are read.
use Rattle.std.specs.Prelude.{ℕ, Bool, List, Result}
use Rattle.icu_plurals.specs.FiveRules.{FiveRules}
use Rattle.icu_plurals.specs.declared.PluralCategory.{PluralCategory}
use Rattle.message_format.specs.FormatSteps.{TwoRules}
use Rattle.message_pattern.specs.PatternParts.{Part}
use Rattle.plural_documents.specs.Steps.{Then}
use Rattle.plural_exports.specs.declared.arguments.GivenArgument.{GivenArgument}
use Rattle.plural_exports.specs.declared.fault.Fault.{Fault}
use Rattle.plural_exports.specs.FormattedPatterns.{IsPatternSaid, rules_of_both}
use Rattle.plural_exports.specs.GivenArguments.{AreArguments}
use Rattle.plural_exports.specs.GivenBytes.{ReadsElements, ReadsNumberBytes, ReadsRules}
use Rattle.plural_exports.specs.NumberAnswers.{HasExactness, HasMessage, HasNumberCategory, HasNumberElement, HasSureCategory}

-- what the pattern says that is read so, under both rules
abbrev pub IsSaidUnder : (Result (List Part) Fault → Type 0) → TwoRules → List GivenArgument → Result (List ℕ) Fault → Type 0
IsSaidUnder Reads rules arguments = Then Reads (λ parts. Then (AreArguments arguments) (IsPatternSaid rules parts))

-- the same, where the rules for ordinal numbers are still to be read
abbrev pub IsSaidWith : (Result (List Part) Fault → Type 0) → FiveRules → List ℕ → List GivenArgument → Result (List ℕ) Fault → Type 0
IsSaidWith Reads cardinal ordinal arguments =
    Then (ReadsRules ordinal) (λ others. IsSaidUnder Reads (rules_of_both cardinal others) arguments)

-- the category of the number
abbrev pub IsCategoryUnder : FiveRules → List ℕ → Result PluralCategory Fault → Type 0
IsCategoryUnder rules number = Then (ReadsNumberBytes number) (HasNumberCategory rules)

-- this category within the exactness bound
abbrev pub IsSureCategoryUnder : FiveRules → List ℕ → Result PluralCategory Fault → Type 0
IsSureCategoryUnder rules number = Then (ReadsNumberBytes number) (HasSureCategory rules)

-- whether this category is exact
abbrev pub IsExactnessUnder : FiveRules → List ℕ → Result Bool Fault → Type 0
IsExactnessUnder rules number = Then (ReadsNumberBytes number) (HasExactness rules)

-- the text of the element that the number chooses
abbrev pub IsElementUnder : FiveRules → List ℕ → List ℕ → Result (List ℕ) Fault → Type 0
IsElementUnder rules elements number =
    Then (ReadsElements elements) (λ values. Then (ReadsNumberBytes number) (HasNumberElement rules values))

-- this text with the number's in the place of each `{}`
abbrev pub IsMessageUnder : FiveRules → List ℕ → List ℕ → Result (List ℕ) Fault → Type 0
IsMessageUnder rules elements number =
    Then (ReadsElements elements) (λ values. Then (ReadsNumberBytes number) (HasMessage number rules values))
