-- A fault in a number's text is passed on.
use Rattle.std.proofs.Common.{◌≡◌, ◌↔◌, Result, Err}
use Rattle.icu_plurals.specs.declared.DecimalError.{DecimalError}
use Rattle.icu_plurals.specs.declared.DecimalError.TheVariants.{Syntax, Limit, Memory as no_memory}
use Rattle.plural_message.specs.declared.MessageError.{MessageError}
use Rattle.plural_message.specs.declared.MessageError.TheVariants.{Number}
use Rattle.plural_message.specs.Messages.{number_error}

-- a fault of syntax is passed on, and no other error becomes one
pub handed_on : {T U P : Type 0} (r : Result T DecimalError) (answer : Result U MessageError) (fault : DecimalError)
    → r ≡ Err fault → answer ≡ Err (number_error fault) → (r ≡ Err Syntax) ↔ P → (answer ≡ Err (Number Syntax)) ↔ P
handed_on r answer Syntax was is told = (λ _. told.0 was, λ _. is)
handed_on r answer Limit was is told = (λ e. absurd cc, λ p. (let e : r ≡ Err Syntax = told.1 p in absurd cc))
handed_on r answer no_memory was is told = (λ e. absurd cc, λ p. (let e : r ≡ Err Syntax = told.1 p in absurd cc))
