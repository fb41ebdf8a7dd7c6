-- Of every list of tokens exactly one rule is read, or it has exactly one fault.
use Rattle.std.proofs.Common.{◌≡◌, List, [], Option, Ok, Err, refl, sym, ap, ◌∙◌, inl, inr}
use Rattle.plural_reference.specs.declared.ast.Condition.{Condition}
use Rattle.plural_reference.specs.declared.ast.Rule.{Rule}
use Rattle.plural_reference.specs.declared.ast.Samples as samples
use Rattle.plural_reference.specs.declared.error.ParseError.{ParseError}
use Rattle.plural_reference.specs.declared.token.Token.{Token}
use Rattle.plural_reference.specs.Parser.{ReadsUpTo}
use Rattle.plural_reference.specs.Samples.{Section, samples_of, ReadsSamples, ReadsRule, FaultyRule}
use Rattle.plural_reference.specs.ReadingLaws.{HasOneReading, HaveOneRule}
use Rattle.plural_reference.specs.Inner.Reader.{run, begin, Outcome}
use Rattle.plural_reference.specs.Inner.SampleReading.SampleReader.{after_sections, run_samples, SampleOutcome}
use Rattle.plural_reference.specs.Inner.RuleReader.{RuleOutcome, with_samples, of_condition, rule_of}
use Rattle.plural_reference.proofs.reading.ReaderComplete.{reads_run, faulty_run}
use Rattle.plural_reference.proofs.reading.ReaderSound.{Said, said}
use Rattle.plural_reference.proofs.samples.SampleSound.{SaidSamples, said_samples}
use Rattle.plural_reference.proofs.samples.SampleComplete.{reads_samples_run, faulty_samples_run}
use Rattle.plural_reference.proofs.reading.PlacedFaults.{fault_place, placed_fault, samples_fault_place, placed_samples_fault}

-- samples that are read come from the lists that the reader gives
sections_read : (tokens : List Token) (s : Option samples.Samples)
    → ReadsSamples tokens s
    → (sections : List Section) × (rest : List Token) × (run_samples (after_sections []) tokens ≡ Ok (sections, rest))
    × (s ≡ samples_of sections)
sections_read tokens s h = (h.0, h.2, reads_samples_run tokens h.0 h.2 (h.1, h.3, h.4, h.5), h.6)

-- the reader gives the rule that is read
pub reads_rule : (tokens : List Token) (r : Rule) → ReadsRule tokens r → rule_of tokens ≡ Ok r
reads_rule tokens r h =
    let s = sections_read h.0 r.samples h.2 in
    ap of_condition (reads_run tokens r.condition h.0 h.1) ∙ ap (with_samples r.condition) s.2
    ∙ ap (λ (x : Option samples.Samples). Ok (record { condition = r.condition; samples = x })) (sym s.3)

-- it gives the fault that the tokens have
pub faulty_rule : (tokens : List Token) (kind : ParseError) → FaultyRule tokens kind → rule_of tokens ≡ Err kind
faulty_rule tokens kind (inl h) = ap of_condition (faulty_run tokens kind h.2 (fault_place tokens kind h))
faulty_rule tokens kind (inr (c, rest, h, k)) =
    ap of_condition (reads_run tokens c rest h) ∙ ap (with_samples c) (faulty_samples_run rest kind k.2 (samples_fault_place rest kind k))

-- one of the two, as the readers return
unfoldable pub Given : List Token → RuleOutcome → Type 0
Given tokens (Ok r) = ReadsRule tokens r
Given tokens (Err kind) = FaultyRule tokens kind

-- what the reader of samples returns after a condition is read, or is a fault
given_samples : (tokens : List Token) (c : Condition) (rest : List Token) (o : SampleOutcome)
    → ReadsUpTo tokens c rest → SaidSamples rest o → Given tokens (with_samples c o)
unfolding Given
given_samples tokens c rest (Ok (sections, left)) h k = (rest, h, (sections, k.0, left, k.1, k.2, k.3, refl))
given_samples tokens c rest (Err (kind, left)) h k = inr (c, rest, h, placed_samples_fault rest kind left k)

-- what it gives of a condition's outcome
given_condition : (tokens : List Token) (o : Outcome) → Said tokens o → Given tokens (of_condition o)
unfolding Given
given_condition tokens (Ok (c, rest)) h = given_samples tokens c rest (run_samples (after_sections []) rest) h (said_samples rest)
given_condition tokens (Err (kind, rest)) h = inl (placed_fault tokens kind rest h)

-- an outcome is one rule
same_ok : (o : RuleOutcome) (r s : Rule) → o ≡ Ok r → o ≡ Ok s → s ≡ r
same_ok o r s h k = cc

-- an outcome is one fault
same_err : (o : RuleOutcome) (e f : ParseError) → o ≡ Err e → o ≡ Err f → f ≡ e
same_err o e f h k = cc

-- an outcome isn't a rule and fault at once
no_both : (o : RuleOutcome) (r : Rule) (e : ParseError) → o ≡ Ok r → o ≡ Err e → ⊥
no_both o r e h k = cc

-- so of the tokens one rule is read, or they have one fault
one_of : (tokens : List Token) (o : RuleOutcome) → rule_of tokens ≡ o → Given tokens o → HasOneReading ReadsRule FaultyRule tokens
unfolding Given
one_of tokens (Ok r) e h =
    inl (
      (r, h, (λ s k. same_ok (rule_of tokens) r s e (reads_rule tokens s k))),
      (λ kind k. no_both (rule_of tokens) r kind e (faulty_rule tokens kind k)),
    )
one_of tokens (Err kind) e h =
    inr (
      (kind, h, (λ other k. same_err (rule_of tokens) kind other e (faulty_rule tokens other k))),
      (λ r k. no_both (rule_of tokens) r kind (reads_rule tokens r k) e),
    )

-- of every list of tokens one rule is read, or it has one fault
pub one_rule : HaveOneRule
one_rule tokens = one_of tokens (rule_of tokens) refl (given_condition tokens (run begin tokens) (said tokens))

-- what the readers return
pub given : (tokens : List Token) → Given tokens (rule_of tokens)
given tokens = given_condition tokens (run begin tokens) (said tokens)
