-- The category of a number's text under the texts of five rules, where it is sure.
--     IsSureCategory texts number category      by any conditions that the texts are read as, of
--         the number itself, whatever its length
--     IsSure texts number      each text gives its rule, and the number's text a number within
--         their exactness bound
--     HasSureFault texts number error      the first reason why there is no sure category
use Rattle.std.specs.Prelude.{◌≡◌, ◌≤◌, ◌<◌, ℕ, List, Option, length}
use Rattle.fixed_decimal.specs.declared.error.DecimalError.{DecimalError}
use Rattle.fixed_decimal.specs.declared.error.DecimalError.TheVariants as number_fault
use Rattle.fixed_decimal.specs.Places.{IsWithinLimit}
use Rattle.fixed_decimal.specs.Written.{CompactNumber, IsCompactOverLimit, WritesCompact}
use Rattle.plural_base.specs.declared.five.Five.{Five}
use Rattle.plural_base.specs.FiveRules.{ArePaired, FiveRules, first_category, moduli_of}
use Rattle.plural_base.specs.RuleTexts.{AreRulesOf, IsFirstRefused}
use Rattle.plural_base.specs.declared.category.PluralCategory.{PluralCategory}
use Rattle.plural_base.specs.declared.sure_choice.SureCategoryError.{SureCategoryError}
use Rattle.plural_base.specs.declared.sure_choice.SureCategoryError.TheVariants.{Rules, Number, OutsideBound}
use Rattle.plural_reference.specs.Exactness.{IsWithinBound, exact_truth}
use Rattle.plural_reference.specs.Lexer.{TextReads}
use Rattle.plural_operands.specs.Operands.{AreExact, Operands}
use Rattle.plural_reference.specs.Parser.{Reads}
use Rattle.plural_reference.specs.declared.ast.Condition.{Condition}
use Rattle.plural_runtime.specs.declared.error.RuleError.TheVariants as rule_fault

-- The text writes a number; and for all conditions that the five texts are read as, and the exact
-- operands of the number, the category is the first whose condition is present and true of them,
-- else other.
abbrev pub IsSureCategory : Five (Option (List ℕ)) → List ℕ → PluralCategory → Type 0
IsSureCategory texts number category =
    (x : CompactNumber) × WritesCompact number x × ((conditions : Five (Option Condition)) (exact : Operands)
    → ArePaired (TextReads Reads) texts conditions → AreExact x.significand.absolute x.exponent exact
    → category ≡ first_category (exact_truth exact) conditions)

-- ---- When there is one

-- the number is within the exactness bound of the rules
abbrev pub IsBounded : FiveRules → CompactNumber → Type 0
IsBounded rules x = IsWithinBound x.significand.absolute x.exponent (moduli_of rules)

-- the text writes the number, and it isn't over the limits
abbrev pub WritesWithin : List ℕ → CompactNumber → Type 0
WritesWithin text x = WritesCompact text x × IsWithinLimit x.significand.absolute × (x.exponent ≤ 255)

-- each text gives its rule, the number's text a number, and this is within the bound of the rules
abbrev pub IsSure : Five (Option (List ℕ)) → List ℕ → Type 0
IsSure texts number =
    (rules : FiveRules) × (x : CompactNumber) × AreRulesOf texts rules × WritesWithin number x × IsBounded rules x

-- each text gives a rule
abbrev pub AreTaken : Five (Option (List ℕ)) → Type 0
AreTaken texts = (rules : FiveRules) × AreRulesOf texts rules

-- the text writes no number
abbrev pub WritesNone : List ℕ → Type 0
WritesNone text = (x : CompactNumber) → ¬ (WritesCompact text x)

-- the text writes a number that is over the limits
abbrev pub WritesOver : List ℕ → Type 0
WritesOver text = (x : CompactNumber) × WritesCompact text x × IsCompactOverLimit x

-- why the text gives no number: out of memory hides no other fault, and a text of at most 16 bytes
-- allocates nothing
abbrev pub IsNumberFault : List ℕ → DecimalError → Type 0
IsNumberFault text number_fault.Syntax = WritesNone text
IsNumberFault text number_fault.Limit = WritesOver text
IsNumberFault text number_fault.Memory = ¬ (WritesNone text) × ¬ (WritesOver text) × (16 < length text)

-- The first text that gives no rule; else the number's; else that the number is outside the bound.
abbrev pub HasSureFault : Five (Option (List ℕ)) → List ℕ → SureCategoryError → Type 0
HasSureFault texts number (Rules error) = IsFirstRefused texts error.category error.error
HasSureFault texts number (Number error) = AreTaken texts × IsNumberFault number error
HasSureFault texts number OutsideBound =
    (rules : FiveRules) × (x : CompactNumber) × AreRulesOf texts rules × WritesWithin number x × ¬ (IsBounded rules x)

-- memory ran out
abbrev pub IsOutOfMemory : SureCategoryError → Type 0
IsOutOfMemory (Rules error) = error.error ≡ rule_fault.Memory
IsOutOfMemory (Number error) = error ≡ number_fault.Memory
IsOutOfMemory OutsideBound = ⊥
