-- Which category a written number has under five rules (UTS 35 Part 3, Language Plural Rules).
--     IsExactChoice      within the bound: the one that the number itself has, whatever its length
--     IsKeptChoice      within the bound or not: the one that its kept operands choose
--     HasCategory rules x category      both
--     IsTextChoice      that of the number that a text writes
--     IsTextAnswer      that, or why the text has none
use Rattle.std.specs.Prelude.{◌≡◌, ◌≢◌, ◌≤◌, ◌↔◌, ℕ, List, Option, Result, Err, IfOk, Contains, length}
use Rattle.fixed_decimal.specs.declared.error.DecimalError.{DecimalError}
use Rattle.fixed_decimal.specs.declared.error.DecimalError.TheVariants as fault
use Rattle.fixed_decimal.specs.Places.{Places, IsWithinLimit}
use Rattle.fixed_decimal.specs.Written.{CompactNumber, WritesCompact, IsCompactOverLimit}
use Rattle.plural_reference.specs.declared.ast.Condition.{Condition}
use Rattle.plural_operands.specs.Operands.{AreKept, AreExact, Operands}
use Rattle.plural_reference.specs.Exactness.{IsWithinBound, exact_truth}
use Rattle.plural_runtime.specs.PackedTruth.{packed_truth}
use Rattle.plural_base.specs.declared.category.PluralCategory.{PluralCategory}
use Rattle.plural_base.specs.declared.five.Five.{Five}
use Rattle.plural_base.specs.FiveRules.{FiveRules, first_category, categories_of, moduli_of}
use Rattle.plural_base.specs.RuleTexts.{AreRulesOf, AreReadAs}

-- For any five texts that the rules come from, and any conditions that these are read as: if the
-- number, with its compact exponent, is within the bound, the category is the first of zero, one,
-- two, few, many whose condition is present and true of the exact number, else other. The standard
-- gives `% 0` no meaning: exact truth treats it as if it weren't written, as packed rules do.
abbrev pub IsExactChoice : FiveRules → Places → ℕ → PluralCategory → Type 0
IsExactChoice rules number exponent category =
    (texts : Five (Option (List ℕ))) (conditions : Five (Option Condition)) (exact : Operands)
    → AreRulesOf texts rules → AreReadAs texts conditions
    → IsWithinBound number exponent (moduli_of rules) → AreExact number exponent exact
    → category ≡ first_category (exact_truth exact) conditions

-- The category is the first whose rule is present and true of the kept operands of the number, else
-- other.
abbrev pub IsKeptChoice : FiveRules → Places → ℕ → PluralCategory → Type 0
IsKeptChoice rules number exponent category =
    (kept : Operands) × AreKept number exponent kept × (category ≡ first_category (packed_truth kept) rules)

-- The category of a number: the one that its kept operands choose, and within the bound that of the
-- number itself (docs/NUMBERS.md).
abbrev pub HasCategory : FiveRules → CompactNumber → PluralCategory → Type 0
HasCategory rules x category =
    IsKeptChoice rules x.significand.absolute x.exponent category × IsExactChoice rules x.significand.absolute x.exponent category

-- The text writes a compact decimal within the limits: at most 32767 places on each side, and an
-- exponent of at most 255. The category is both choices for its digits and its exponent.
abbrev pub IsTextChoice : FiveRules → List ℕ → PluralCategory → Type 0
IsTextChoice rules text category =
    (x : CompactNumber) × WritesCompact text x × IsWithinLimit x.significand.absolute × (x.exponent ≤ 255)
    × HasCategory rules x category

-- A text is answered by its choice, which is a category of the rules; by `Syntax` if and only if it
-- writes no number, and by `Limit` if and only if it writes one over a limit. Memory runs out only
-- for a text of more than 16 bytes.
pub record IsTextAnswer (rules : FiveRules) (text : List ℕ) (answer : Result PluralCategory DecimalError) : Type 0 where
  pub chosen : IfOk answer (λ category. IsTextChoice rules text category)
  pub member : IfOk answer (λ category. Contains (categories_of rules) category)
  pub syntax : (answer ≡ Err fault.Syntax) ↔ ((x : CompactNumber) → ¬ (WritesCompact text x))
  pub limit : (answer ≡ Err fault.Limit) ↔ ((x : CompactNumber) × WritesCompact text x × IsCompactOverLimit x)
  pub inline : length text ≤ 16 → answer ≢ Err fault.Memory
