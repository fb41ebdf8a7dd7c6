-- When an error is returned, carried from a call to its caller.
use Rattle.std.proofs.Common.{◌≡◌, ◌≢◌, ◌↔◌, Result, Ok, Err, sym}
use Rattle.std.specs.Prelude.{IfErr}
use Rattle.std.proofs.lemmas.Result.{IfErr-at_err}
use Rattle.fixed_decimal.specs.declared.error.DecimalError.{DecimalError}
use Rattle.fixed_decimal.specs.declared.error.DecimalError.TheVariants.{Syntax, Limit, Memory}

-- the caller returns the callee's error, and what it says of the callee's input it says of the
-- caller's
pub carried : {T U P Q : Type 0} (r : Result T DecimalError) (q : Result U DecimalError) (e k : DecimalError)
    → r ≡ Err e → q ≡ Err e → (r ≡ Err k) ↔ P → (P → Q) → (Q → P) → (q ≡ Err k) ↔ Q
carried r q e k a b i f g = (λ h. f (i.0 cc), λ h. (let j : r ≡ Err k = i.1 (g h) in cc))

-- what an accepting call says of its input: there is no cause of the error
pub no_cause : {T P : Type 0} (r : Result T DecimalError) (x : T) (k : DecimalError) → r ≡ Ok x → (r ≡ Err k) ↔ P → ¬ P
no_cause r x k was i p = let e : r ≡ Err k = i.1 p in absurd cc

pub syntax_is_not_limit : Syntax ≢ Limit
syntax_is_not_limit e = cc

pub limit_is_not_syntax : Limit ≢ Syntax
limit_is_not_syntax e = cc

pub memory_is_not_syntax : Memory ≢ Syntax
memory_is_not_syntax e = cc

pub memory_is_not_limit : Memory ≢ Limit
memory_is_not_limit e = cc

-- what is accepted is refused for no cause
pub accepted : {U P : Type 0} (x : U) (k : DecimalError) → ¬ P → (Ok x ≡ Err k) ↔ P
accepted x k none = (λ h. absurd cc, λ p. absurd (none p))

-- what is refused for one cause isn't refused for another
pub refused_otherwise : {U P : Type 0} (q : Result U DecimalError) (e k : DecimalError) → q ≡ Err e → e ≢ k → ¬ P → (q ≡ Err k) ↔ P
refused_otherwise q e k answered other none = (λ h. absurd (other cc), λ p. absurd (none p))

-- what is made in memory alone gives none of the input's errors
pub making_alone : {U P : Type 0} (q : Result U DecimalError) (k : DecimalError) → IfErr q (λ e. e ≡ Memory) → Memory ≢ k
    → ¬ P → (q ≡ Err k) ↔ P
making_alone q k only other none = (λ h. absurd (other (sym (IfErr-at_err (λ e. e ≡ Memory) h only))), λ p. absurd (none p))

-- where the input is of its form, a refusal is that of the limit
pub limit_alone : {T U N L M : Type 0} (r : Result T DecimalError) (q : Result U DecimalError) (e : DecimalError)
    → r ≡ Err e → q ≡ Err e → r ≢ Err Memory → (r ≡ Err Syntax) ↔ N → (r ≡ Err Limit) ↔ L → (L → M) → (M → ¬ N) → (q ≡ Err Limit) ↔ M
limit_alone r q Syntax was answered no_memory syntax limit from formed = (λ h. absurd cc, λ m. absurd (formed m (syntax.0 was)))
limit_alone r q Limit was answered no_memory syntax limit from formed = (λ h. from (limit.0 was), λ m. answered)
limit_alone r q Memory was answered no_memory syntax limit from formed = absurd (no_memory was)

-- the caller runs out of memory no more than the callee whose error it returns
pub no_memory : {T U : Type 0} (r : Result T DecimalError) (q : Result U DecimalError) (e : DecimalError)
    → r ≡ Err e → q ≡ Err e → r ≢ Err Memory → q ≢ Err Memory
no_memory r q e was answered other h = other cc
