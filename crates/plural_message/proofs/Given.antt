-- What a text is answered: its message, or why there is none.
use Rattle.std.proofs.Common.{◌≡◌, ◌↔◌, ℕ, List, Result, Ok, Err, String, string_bytes, refl}
use Rattle.std.specs.declared.alloc.Global.{Global}
use Rattle.fixed_decimal.specs.declared.error.DecimalError.{DecimalError}
use Rattle.fixed_decimal.specs.declared.error.DecimalError.TheVariants.{Syntax, Limit, Memory as no_memory}
use Rattle.icu_plurals.specs.Elements.{Elements, IsExactElement, IsKeptElement}
use Rattle.icu_plurals.specs.FiveRules.{FiveRules}
use Rattle.icu_plurals.specs.PackedElements.{PackedValue}
use Rattle.icu_plurals.specs.Written.{CompactNumber, WritesCompact, IsCompactOverLimit}
use Rattle.plural_message.specs.declared.error.MessageError.TheVariants.{Memory}
use Rattle.plural_message.specs.Messages.{GivesMessage, IsMessageOf, number_error}

-- how a number is read from a text: by a fault of syntax if and only if it writes none, and by one
-- of limits if and only if it writes one over a limit
abbrev pub HasFaultsOf : {T : Type 0} → List ℕ → Result T DecimalError → Type 0
HasFaultsOf number read =
    ((read ≡ Err Syntax) ↔ ((x : CompactNumber) → ¬ (WritesCompact number x)))
    × ((read ≡ Err Limit) ↔ ((x : CompactNumber) × WritesCompact number x × IsCompactOverLimit x))

-- the number was read, and there is a message
pub is_given : {T : Type 0} (elements : Elements PackedValue) (rules : FiveRules) (number : List ℕ) (read : Result T DecimalError) (written : T) (text : String Global)
    → HasFaultsOf number read → read ≡ Ok written
    → IsMessageOf (IsKeptElement elements rules) number (string_bytes text)
    → IsMessageOf (IsExactElement elements rules) number (string_bytes text) → GivesMessage elements rules number (Ok text)
is_given elements rules number read written text faults was kept exact =
    record {
      kept = kept;
      exact = exact;
      syntax = (λ e. absurd (cc e), λ none. let e : read ≡ Err Syntax = faults.0.1 none in absurd cc);
      limit = (λ e. absurd (cc e), λ over. let e : read ≡ Err Limit = faults.1.1 over in absurd cc);
      memory = λ e. cc e;
    }

-- the number was read, and memory ran out
pub is_lacking : {T : Type 0} (elements : Elements PackedValue) (rules : FiveRules) (number : List ℕ) (read : Result T DecimalError) (written : T)
    → HasFaultsOf number read → read ≡ Ok written → GivesMessage elements rules number (Err Memory)
is_lacking elements rules number read written faults was =
    record {
      kept = tt;
      exact = tt;
      syntax = (λ e. absurd (cc e), λ none. let e : read ≡ Err Syntax = faults.0.1 none in absurd cc);
      limit = (λ e. absurd (cc e), λ over. let e : read ≡ Err Limit = faults.1.1 over in absurd cc);
      memory = λ e. cc e;
    }

-- the number wasn't read: its fault is passed on
pub is_refused : {T : Type 0} (elements : Elements PackedValue) (rules : FiveRules) (number : List ℕ) (read : Result T DecimalError) (fault : DecimalError)
    → HasFaultsOf number read → read ≡ Err fault → GivesMessage elements rules number (Err (number_error fault))
is_refused elements rules number read Syntax faults was =
    record {
      kept = tt;
      exact = tt;
      syntax = (λ e. faults.0.0 was, λ none. refl);
      limit = (λ e. absurd (cc e), λ over. let e : read ≡ Err Limit = faults.1.1 over in absurd cc);
      memory = λ e. cc e;
    }
is_refused elements rules number read Limit faults was =
    record {
      kept = tt;
      exact = tt;
      syntax = (λ e. absurd (cc e), λ none. let e : read ≡ Err Syntax = faults.0.1 none in absurd cc);
      limit = (λ e. faults.1.0 was, λ over. refl);
      memory = λ e. cc e;
    }
is_refused elements rules number read no_memory faults was =
    record {
      kept = tt;
      exact = tt;
      syntax = (λ e. absurd (cc e), λ none. let e : read ≡ Err Syntax = faults.0.1 none in absurd cc);
      limit = (λ e. absurd (cc e), λ over. let e : read ≡ Err Limit = faults.1.1 over in absurd cc);
      memory = λ e. cc e;
    }
