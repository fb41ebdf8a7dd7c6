-- What a text gives as a rule, by the grammar and by the reader.
use Rattle.std.proofs.Common.{◌≡◌, ℕ, List, refl, sym, ap, ◌∙◌, inl, inr}
use Rattle.std.specs.Prelude.{◌⊎◌, Result, Ok, Err}
use Rattle.plural_reference.specs.declared.ast.Condition.{Condition}
use Rattle.plural_reference.specs.declared.error.ParseError.{ParseError}
use Rattle.plural_reference.specs.Lexer.{TextReads}
use Rattle.plural_reference.specs.Samples.{ReadsCondition}
use Rattle.plural_reference.specs.Inner.RuleReader.{condition_of_text}
use Rattle.plural_reference.specs.ReadingLaws.{TextsAreRead}
use Rattle.plural_runtime.specs.declared.error.RuleError.TheVariants.{Memory}
use Rattle.plural_runtime.specs.PackedTree.{Packs}
use Rattle.plural_runtime.specs.RuleOfText.{RuleAnswer, TextGives, TextsGiveOneAnswer, packing_of, rule_of_text}

-- the function packs what the reader reads
rule_of_text-is : (text : List ℕ) → rule_of_text text ≡ packing_of (condition_of_text text)
unfolding rule_of_text
rule_of_text-is text = refl

-- what the grammar gives is what the function gives
given_is_told : TextsAreRead → (text : List ℕ) (answer : RuleAnswer) → TextGives text answer
    → answer ≡ packing_of (condition_of_text text)
given_is_told law text answer (inl h) = h.2 ∙ ap packing_of (sym (((law text).0 h.0).0 h.1))
given_is_told law text answer (inr h) = h.2 ∙ ap packing_of (sym (((law text).1 h.0).0 h.1))

-- what the function gives is what the grammar gives, whichever the reader's outcome is
told_is_given : TextsAreRead → (text : List ℕ) (answer : RuleAnswer) (outcome : Result Condition ParseError)
    → condition_of_text text ≡ outcome → answer ≡ packing_of outcome → TextGives text answer
told_is_given law text answer (Ok condition) e h = inl (condition, ((law text).0 condition).1 e, h)
told_is_given law text answer (Err kind) e h = inr (kind, ((law text).1 kind).1 e, h)

-- a text that is read as a condition gives the result of packing it, unless that is out of memory
pub gives_when_read : (text : List ℕ) (condition : Condition) (answer : RuleAnswer)
    → TextReads ReadsCondition text condition → Packs condition answer → TextGives text answer ⊎ (answer ≡ Err Memory)
gives_when_read text condition answer reads (inl is) = inl (inl (condition, reads, is))
gives_when_read text condition answer reads (inr memory) = inr memory

-- both say the same
pub texts_give_one_answer : TextsAreRead → TextsGiveOneAnswer
texts_give_one_answer law text answer = (
  (λ h. given_is_told law text answer h ∙ sym (rule_of_text-is text)),
  (λ h. told_is_given law text answer (condition_of_text text) refl (h ∙ rule_of_text-is text)),
)
