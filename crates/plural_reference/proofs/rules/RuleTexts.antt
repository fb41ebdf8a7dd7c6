-- What a text gives as a rule's condition: by the grammar and by the reader the same.
use Rattle.std.proofs.Common.{◌≡◌, ℕ, List, Ok, Err, sym, ap, ◌∙◌, subst}
use Rattle.plural_reference.specs.declared.ast.Condition.{Condition}
use Rattle.plural_reference.specs.declared.error.ParseError.{ParseError}
use Rattle.plural_reference.specs.declared.token.Token.{Token}
use Rattle.plural_reference.specs.Lexer.{TextReads, TextFaulty}
use Rattle.plural_reference.specs.ReadingLaws.{TextsAreRead}
use Rattle.plural_reference.specs.Samples.{ReadsCondition, FaultyRule}
use Rattle.plural_reference.specs.Inner.Scan.{tokens_of}
use Rattle.plural_reference.specs.Inner.RuleReader.{RuleOutcome, rule_of, without_samples, condition_of_text}
use Rattle.plural_reference.proofs.tokens.ScanSound.{has_tokens, tokens_are}
use Rattle.plural_reference.proofs.rules.RuleReadings.{Given, given, reads_rule, faulty_rule}

-- the reader gives the condition that is read of the text
reads_condition : (text : List ℕ) (c : Condition) → TextReads ReadsCondition text c → condition_of_text text ≡ Ok c
unfolding condition_of_text
reads_condition text c (tokens, cut, (rule, read, is)) =
    ap (λ (x : List Token). without_samples (rule_of x)) (sym (tokens_are text tokens cut))
    ∙ ap without_samples (reads_rule tokens rule read)
    ∙ ap (λ (x : Condition). Ok x) is

-- it gives the fault that the text has
faulty_condition : (text : List ℕ) (kind : ParseError) → TextFaulty FaultyRule text kind → condition_of_text text ≡ Err kind
unfolding condition_of_text
faulty_condition text kind (tokens, cut, fault) =
    ap (λ (x : List Token). without_samples (rule_of x)) (sym (tokens_are text tokens cut))
    ∙ ap without_samples (faulty_rule tokens kind fault)

-- the condition that the reader gives is that of the rule that is read
condition_read : (tokens : List Token) (o : RuleOutcome) (c : Condition)
    → Given tokens o → without_samples o ≡ Ok c → ReadsCondition tokens c
unfolding Given
condition_read tokens (Ok rule) c h e = (rule, h, cc)
condition_read tokens (Err kind) c h e = cc

-- the fault that it gives is present
fault_read : (tokens : List Token) (o : RuleOutcome) (kind : ParseError)
    → Given tokens o → without_samples o ≡ Err kind → FaultyRule tokens kind
unfolding Given
fault_read tokens (Ok rule) kind h e = cc
fault_read tokens (Err fault) kind h e = let same : fault ≡ kind = cc in subst (FaultyRule tokens) same h

-- so grammar and reader give the same of every text
pub texts_are_read : TextsAreRead
unfolding condition_of_text
texts_are_read text = (
  λ c. (
    reads_condition text c,
    λ e. (tokens_of text, has_tokens text, condition_read (tokens_of text) (rule_of (tokens_of text)) c (given (tokens_of text)) e),
  ),
  λ kind. (
    faulty_condition text kind,
    λ e. (tokens_of text, has_tokens text, fault_read (tokens_of text) (rule_of (tokens_of text)) kind (given (tokens_of text)) e),
  ),
)
