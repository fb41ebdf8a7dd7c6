-- A result that is read, or a fault that is present, is the exact result.
use Rattle.std.proofs.Common.{◌≡◌, ℕ, List, [], true, Result, Ok, Err, refl, sym, ap, ◌∙◌, subst, inl, inr}
use Rattle.plural_reference.specs.declared.ast.Condition.{Condition}
use Rattle.plural_reference.specs.declared.ast.Rule.{Rule}
use Rattle.plural_reference.specs.declared.error.ParseError.{ParseError}
use Rattle.plural_reference.specs.declared.error.ReadError.{ReadError}
use Rattle.plural_reference.specs.declared.error.ReadError.TheVariants.{Parse, Memory}
use Rattle.plural_reference.specs.declared.token.Token.{Token}
use Rattle.plural_reference.specs.Lexer.{AreTokensOf}
use Rattle.plural_reference.specs.Parser.{Reads, Faulty}
use Rattle.plural_reference.specs.Reading.{AnswersExactly, IsAnswer, IsFault, AnswersUnlessMemory}
use Rattle.plural_reference.specs.ReadingLaws.{HasOneReading}
use Rattle.plural_reference.specs.Samples.{ReadsRule, ReadsCondition, FaultyRule}
use Rattle.plural_reference.specs.Inner.Reader.{run, begin}
use Rattle.plural_reference.specs.Inner.SampleReading.SampleReader.{ReadsStored, ReadsAllSamples, after_sections, run_samples}
use Rattle.plural_reference.specs.Inner.RuleReader.{rule_of, of_condition, with_samples}
use Rattle.plural_reference.proofs.tokens.ScanSound.{tokens_are}
use Rattle.plural_reference.proofs.reading.ReaderSound.{Said, said}
use Rattle.plural_reference.proofs.reading.Readings.{one_reading}
use Rattle.plural_reference.proofs.samples.SampleSinks.{kept_is_read}
use Rattle.plural_reference.proofs.rules.RuleReadings.{Given, given, one_rule}
use Rattle.plural_reference.proofs.reading.PlacedFaults.{placed_fault}

-- ---- one result

-- a text has one list of tokens
same_tokens : (text : List ℕ) (a b : List Token) → AreTokensOf text a → AreTokensOf text b → a ≡ b
same_tokens text a b h k = tokens_are text a h ∙ sym (tokens_are text b k)

-- if the result was read or is a fault, a thing that is read is the result
read_of : {A : Type 0} (Read : List Token → A → Type 0) (Fault : List Token → ParseError → Type 0) (tokens : List Token) (x : A)
    (r : Result A ReadError)
    → HasOneReading Read Fault tokens → IsAnswer (Read tokens) (Fault tokens) r → Read tokens x → AnswersUnlessMemory r (Ok x)
read_of Read Fault tokens x (Ok y) (inl one) h k = inl (ap Ok (one.0.2 y h ∙ sym (one.0.2 x k)))
read_of Read Fault tokens x (Err (Parse e)) (inl one) h k = absurd (one.1 e h)
read_of Read Fault tokens x (Err Memory) (inl one) h k = inr refl
read_of Read Fault tokens x r (inr one) h k = absurd (one.1 x k)

-- the same of a fault that the tokens have
fault_of : {A : Type 0} (Read : List Token → A → Type 0) (Fault : List Token → ParseError → Type 0) (tokens : List Token) (e : ParseError)
    (r : Result A ReadError)
    → HasOneReading Read Fault tokens → IsAnswer (Read tokens) (Fault tokens) r → Fault tokens e → AnswersUnlessMemory r (Err (Parse e))
fault_of Read Fault tokens e r (inl one) h k = absurd (one.1 e k)
fault_of Read Fault tokens e (Ok y) (inr one) h k = absurd (one.1 y h)
fault_of Read Fault tokens e (Err (Parse f)) (inr one) h k = inl (ap (λ x. Err (Parse x)) (one.0.2 f h ∙ sym (one.0.2 e k)))
fault_of Read Fault tokens e (Err Memory) (inr one) h k = inr refl

-- so such a result is the exact one for the text
exactly : {A : Type 0} (Read : List Token → A → Type 0) (Fault : List Token → ParseError → Type 0) (text : List ℕ) (tokens : List Token)
    (r : Result A ReadError)
    → AreTokensOf text tokens → HasOneReading Read Fault tokens → IsAnswer (Read tokens) (Fault tokens) r
    → AnswersExactly Read Fault text r
exactly Read Fault text tokens r t one h = record {
  only = λ other k. subst (λ l. IsAnswer (Read l) (Fault l) r) (same_tokens text tokens other t k) h;
  read = λ other x k l. read_of Read Fault tokens x r one h (subst (λ y. Read y x) (same_tokens text other tokens k t) l);
  fault = λ other e k l. fault_of Read Fault tokens e r one h (subst (λ y. Fault y e) (same_tokens text other tokens k t) l);
}

-- ---- conditions

-- what the reader of conditions gives is read, or is a fault
condition_said : (tokens rest : List Token) (r : Result Condition ReadError)
    → IsAnswer (λ c. run begin tokens ≡ Ok (c, rest)) (λ e. run begin tokens ≡ Err (e, rest)) r → IsAnswer (Reads tokens) (Faulty tokens) r
condition_said tokens rest (Ok c) h = (rest, subst (Said tokens) h (said tokens))
condition_said tokens rest (Err (Parse e)) h = placed_fault tokens e rest (subst (Said tokens) h (said tokens))
condition_said tokens rest (Err Memory) h = tt

-- so the result for a condition is exact
pub condition_answers : (text : List ℕ) (tokens rest : List Token) (r : Result Condition ReadError)
    → AreTokensOf text tokens → IsAnswer (λ c. run begin tokens ≡ Ok (c, rest)) (λ e. run begin tokens ≡ Err (e, rest)) r
    → AnswersExactly Reads Faulty text r
condition_answers text tokens rest r t h = exactly Reads Faulty text tokens r t (one_reading tokens) (condition_said tokens rest r h)

-- ---- rules

-- what the reader of rules gives is read, or is a fault
rule_said : (tokens : List Token) (r : Result Rule ReadError)
    → IsAnswer (λ x. rule_of tokens ≡ Ok x) (λ e. rule_of tokens ≡ Err e) r → IsAnswer (ReadsRule tokens) (FaultyRule tokens) r
unfolding Given
rule_said tokens (Ok x) h = subst (Given tokens) h (given tokens)
rule_said tokens (Err (Parse e)) h = subst (Given tokens) h (given tokens)
rule_said tokens (Err Memory) h = tt

-- so the result for a rule is exact
pub rule_answers : (text : List ℕ) (tokens : List Token) (r : Result Rule ReadError)
    → AreTokensOf text tokens → IsAnswer (λ x. rule_of tokens ≡ Ok x) (λ e. rule_of tokens ≡ Err e) r
    → AnswersExactly ReadsRule FaultyRule text r
rule_answers text tokens r t h = exactly ReadsRule FaultyRule text tokens r t (one_rule tokens) (rule_said tokens r h)

-- a condition, and samples after it
pub rule_is : (tokens middle rest : List Token) (rule : Rule)
    → run begin tokens ≡ Ok (rule.condition, middle) → ReadsAllSamples middle rule.samples rest → rule_of tokens ≡ Ok rule
rule_is tokens middle rest rule h k =
    ap of_condition h ∙ ap (with_samples rule.condition) k.run_is
    ∙ ap (λ x. Ok (record { condition = rule.condition; samples = x })) (sym k.samples_are)

-- the same of samples that are kept
pub kept_rule_is : (tokens middle rest : List Token) (rule : Rule)
    → run begin tokens ≡ Ok (rule.condition, middle) → ReadsStored true ReadsAllSamples middle rule.samples rest → rule_of tokens ≡ Ok rule
kept_rule_is tokens middle rest rule h k = rule_is tokens middle rest rule h (kept_is_read ReadsAllSamples middle rule.samples rest k)

-- a fault of the condition is one of the rule
pub condition_fault : (tokens rest : List Token) (kind : ParseError) → run begin tokens ≡ Err (kind, rest) → rule_of tokens ≡ Err kind
condition_fault tokens rest kind h = ap of_condition h

-- so is a fault of the samples after it
pub samples_fault : (tokens middle rest : List Token) (c : Condition) (kind : ParseError)
    → run begin tokens ≡ Ok (c, middle) → run_samples (after_sections []) middle ≡ Err (kind, rest) → rule_of tokens ≡ Err kind
samples_fault tokens middle rest c kind h k = ap of_condition h ∙ ap (with_samples c) k

-- ---- rules without their samples

-- of every list of tokens one rule's condition is read, or it has one fault
one_of_rules : (tokens : List Token) → HasOneReading ReadsRule FaultyRule tokens → HasOneReading ReadsCondition FaultyRule tokens
one_of_rules tokens (inl ((rule, read, only), none)) =
    inl ((rule.condition, (rule, read, refl), (λ c h. sym h.2 ∙ ap (λ (x : Rule). x.condition) (only h.0 h.1))), none)
one_of_rules tokens (inr (one, none)) = inr (one, (λ c h. none h.0 h.1))

-- a condition, and samples after it that are left out
pub without_samples_answers : (text : List ℕ) (tokens middle rest : List Token) (rule : Rule)
    → AreTokensOf text tokens → run begin tokens ≡ Ok (rule.condition, middle) → ReadsAllSamples middle rule.samples rest
    → AnswersExactly ReadsCondition FaultyRule text (Ok rule.condition)
unfolding Given
without_samples_answers text tokens middle rest rule t h k =
    exactly ReadsCondition FaultyRule text tokens (Ok rule.condition) t (one_of_rules tokens (one_rule tokens))
    (rule, subst (Given tokens) (rule_is tokens middle rest rule h k) (given tokens), refl)

-- a fault of either, or out of memory
pub without_samples_refuses : (text : List ℕ) (tokens : List Token) (e : ReadError)
    → AreTokensOf text tokens → IsFault (λ kind. rule_of tokens ≡ Err kind) e → AnswersExactly ReadsCondition FaultyRule text (Err e)
unfolding Given
without_samples_refuses text tokens (Parse kind) t h =
    exactly ReadsCondition FaultyRule text tokens (Err (Parse kind)) t (one_of_rules tokens (one_rule tokens))
    (subst (Given tokens) h (given tokens))
without_samples_refuses text tokens Memory t h =
    exactly ReadsCondition FaultyRule text tokens (Err Memory) t (one_of_rules tokens (one_rule tokens)) tt
