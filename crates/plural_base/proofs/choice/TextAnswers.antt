-- What a text is answered, by the operands that are kept of the number that it writes.
use Rattle.std.proofs.Common.{◌≡◌, ◌↔◌, ◌≤◌, ◌≢◌, ℕ, List, Result, Ok, Err, length}
use Rattle.std.specs.Prelude.{Contains}
use Rattle.fixed_decimal.specs.declared.error.DecimalError.{DecimalError}
use Rattle.fixed_decimal.specs.declared.error.DecimalError.TheVariants as fault
use Rattle.fixed_decimal.specs.Places.{IsWithinLimit}
use Rattle.fixed_decimal.specs.Written.{CompactNumber, WritesCompact, IsCompactOverLimit}
use Rattle.plural_operands.specs.Operands.{AreKept, Operands}
use Rattle.plural_runtime.specs.PackedTruth.{packed_truth}
use Rattle.plural_base.specs.declared.category.PluralCategory.{PluralCategory}
use Rattle.plural_base.specs.ChoiceLaws.{KeptChoiceIsExact}
use Rattle.plural_base.specs.DecimalChoice.{IsKeptChoice, IsTextAnswer}
use Rattle.plural_base.specs.FiveRules.{FiveRules, first_category, categories_of}

-- the text writes a number within the limits, of which these operands are kept
abbrev pub IsKeptOf : List ℕ → Operands → Type 0
IsKeptOf text kept =
    (x : CompactNumber) × WritesCompact text x × IsWithinLimit x.significand.absolute × (x.exponent ≤ 255)
    × AreKept x.significand.absolute x.exponent kept

-- the text writes a number over a limit
abbrev pub IsOverLimit : List ℕ → Type 0
IsOverLimit text = (x : CompactNumber) × WritesCompact text x × IsCompactOverLimit x

-- a value is no error
pub no_error : {A : Type 0} {E : Type 0} (x : A) (e : E) → Ok x ≡ Err e → ⊥
no_error x e h = cc

-- the category that the kept operands choose is the text's answer
pub chosen_answer : (rules : FiveRules) (text : List ℕ) (kept : Operands) (category : PluralCategory) → KeptChoiceIsExact
    → IsKeptOf text kept → (IsOverLimit text → ⊥) → category ≡ first_category (packed_truth kept) rules
    → Contains (categories_of rules) category → IsTextAnswer rules text (Ok category)
chosen_answer rules text kept category exact number within first member =
    let x = number.0 in
    let digits = x.significand.absolute in
    let choice : IsKeptChoice rules digits x.exponent category = (kept, number.4, first) in
    record {
      chosen = (x, number.1, number.2, number.3, (choice, exact rules digits x.exponent category number.1.2.1.digits choice));
      member = member;
      syntax = (λ e. absurd (no_error category fault.Syntax e), λ none. absurd (none x number.1));
      limit = (λ e. absurd (no_error category fault.Limit e), λ over. absurd (within over));
      inline = λ short e. absurd (no_error category fault.Memory e);
    }

-- a refusal of the operands is the text's answer
pub refused_answer : (rules : FiveRules) (text : List ℕ) (error : DecimalError) (operands : Result Operands DecimalError) → operands ≡ Err error
    → ((operands ≡ Err fault.Syntax) ↔ ((x : CompactNumber) → ¬ (WritesCompact text x)))
    → ((operands ≡ Err fault.Limit) ↔ IsOverLimit text) → (length text ≤ 16 → operands ≢ Err fault.Memory)
    → IsTextAnswer rules text (Err error)
refused_answer rules text error operands is syntax limit inline =
    record {
      chosen = tt;
      member = tt;
      syntax = (λ e. syntax.0 (cc e), λ none. cc (syntax.1 none));
      limit = (λ e. limit.0 (cc e), λ over. cc (limit.1 over));
      inline = λ short e. inline short (cc e);
    }
