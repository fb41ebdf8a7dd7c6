-- When an error is returned, carried from a call to its caller.
use Rattle.std.proofs.Common.{◌≡◌, ◌↔◌, Result, Ok, Err}
use Rattle.fixed_decimal.specs.declared.error.DecimalError.{DecimalError}

-- what is accepted is refused for no cause
pub accepted : {U P : Type 0} (x : U) (k : DecimalError) → ¬ P → (Ok x ≡ Err k) ↔ P
accepted x k none = (λ h. absurd cc, λ p. absurd (none p))

-- what an accepting call says of its input: there is no cause of the error
pub no_cause : {T P : Type 0} (x : T) (k : DecimalError) → (Ok x ≡ Err k) ↔ P → ¬ P
no_cause x k cause p = let e : Ok x ≡ Err k = cause.1 p in absurd cc

-- the caller returns the callee's error, with its cause
pub carried : {T U P : Type 0} (r : Result T DecimalError) (q : Result U DecimalError) (e k : DecimalError)
    → r ≡ Err e → q ≡ Err e → (r ≡ Err k) ↔ P → (q ≡ Err k) ↔ P
carried r q e k a b cause = (λ h. cause.0 cc, λ p. (let j : r ≡ Err k = cause.1 p in cc))
