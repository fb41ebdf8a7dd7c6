-- The result of packing a text.
use Rattle.std.proofs.Common.{◌≡◌, ℕ, List, inl, inr, Ok, Err}
use Rattle.std.specs.Prelude.{◌⊎◌, IfOk, IfErr}
use Rattle.plural_runtime.specs.declared.error.RuleError.TheVariants.{Memory}
use Rattle.plural_runtime.specs.RuleOfText.{RuleAnswer, IsPackedFrom, TextGives, TextsGiveOneAnswer, rule_of_text}

-- the result is what the reader gives, or out of memory
pub answered_told : TextsGiveOneAnswer → (text : List ℕ) (answer : RuleAnswer) → TextGives text answer ⊎ (answer ≡ Err Memory)
    → (answer ≡ rule_of_text text) ⊎ (answer ≡ Err Memory)
answered_told one_answer text answer (inl gives) = inl ((one_answer text answer).0 gives)
answered_told one_answer text answer (inr memory) = inr memory

-- a rule that is returned is packed from the text
pub answered_ok : (text : List ℕ) (answer : RuleAnswer) → TextGives text answer ⊎ (answer ≡ Err Memory)
    → IfOk answer (λ rule. IsPackedFrom text (Ok rule))
answered_ok text (Ok rule) (inl (inl read)) = read
answered_ok text (Ok rule) (inl (inr fault)) = absurd (let e = fault.2 in cc)
answered_ok text (Ok rule) (inr memory) = absurd cc
answered_ok text (Err e) h = tt

-- an error that is returned is given by the text, or is out of memory
pub answered_err : (text : List ℕ) (answer : RuleAnswer) → TextGives text answer ⊎ (answer ≡ Err Memory)
    → IfErr answer (λ e. TextGives text (Err e) ⊎ (e ≡ Memory))
answered_err text (Ok rule) h = tt
answered_err text (Err e) (inl gives) = inl gives
answered_err text (Err e) (inr memory) = inr cc
