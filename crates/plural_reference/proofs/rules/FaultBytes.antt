-- The fault of a rule, the tokens that it leaves and its byte: those that the readers give, and no
-- others.
use Rattle.std.proofs.Common.{◌≡◌, ◌++◌, ◌↔◌, ℕ, List, [], Option, Some, None, Ok, Err, refl, sym, ap, ◌∙◌, subst, append_assoc, inl, inr}
use Rattle.plural_reference.specs.declared.ast.Condition.{Condition}
use Rattle.plural_reference.specs.declared.ast.Rule.{Rule}
use Rattle.plural_reference.specs.declared.error.ParseError.{ParseError}
use Rattle.plural_reference.specs.declared.parser.fault.RuleFault.{RuleFault}
use Rattle.plural_reference.specs.declared.token.Token.{Token}
use Rattle.plural_reference.specs.Lexer.{AreTokensOf}
use Rattle.plural_reference.specs.Samples.{ReadsRule, FaultyRule}
use Rattle.plural_reference.specs.FaultPlaces.{FaultyRuleAt, StandsAt, TextFaultyAt, TextIsRead}
use Rattle.plural_reference.specs.Inner.Reader.{Outcome, run, begin}
use Rattle.plural_reference.specs.Inner.RuleReader.{RuleOutcome, rule_of}
use Rattle.plural_reference.specs.Inner.SampleReading.PlainSamples.{HasSamples}
use Rattle.plural_reference.specs.Inner.SampleReading.SampleReader.{SampleOutcome, after_sections, run_samples}
use Rattle.plural_reference.proofs.tokens.ScanSound.{tokens_are}
use Rattle.plural_reference.proofs.tokens.Walk.{one_byte}
use Rattle.plural_reference.proofs.reading.PlacedFaults.{placed_fault, placed_samples_fault}
use Rattle.plural_reference.proofs.reading.ReaderComplete.{reads_run, faulty_run}
use Rattle.plural_reference.proofs.reading.ReaderSound.{Said, said}
use Rattle.plural_reference.proofs.samples.SampleComplete.{faulty_samples_run}
use Rattle.plural_reference.proofs.samples.SampleSound.{SaidSamples, said_samples}
use Rattle.plural_reference.proofs.rules.Answered.{rule_is}
use Rattle.plural_reference.proofs.rules.RuleReadings.{Given, given, faulty_rule, reads_rule}
use Rattle.plural_reference.proofs.rules.WholeRules.{read_part}

-- ---- what the parser finds

-- a rule, whatever its samples
pub rule_read : (tokens middle : List Token) (c : Condition)
    → run begin tokens ≡ Ok (c, middle) → HasSamples middle → (rule : Rule) × ReadsRule tokens rule
unfolding Given
rule_read tokens middle c h s =
    let rule : Rule = record { condition = c; samples = s.0 } in
    (rule, subst (Given tokens) (rule_is tokens middle s.1 rule h s.2) (given tokens))

-- a fault of the condition
pub condition_place : (tokens rest : List Token) (kind : ParseError) → run begin tokens ≡ Err (kind, rest) → FaultyRuleAt tokens kind rest
condition_place tokens rest kind h = inl (subst (Said tokens) h (said tokens))

-- a fault of the samples after it
pub samples_place : (tokens middle rest : List Token) (c : Condition) (kind : ParseError)
    → run begin tokens ≡ Ok (c, middle) → run_samples (after_sections []) middle ≡ Err (kind, rest) → FaultyRuleAt tokens kind rest
samples_place tokens middle rest c kind h k =
    inr (c, middle, subst (Said tokens) h (said tokens), subst (SaidSamples middle) k (said_samples middle))

-- ---- one place

-- the tokens that are left end the tokens
pub left_of : (tokens rest : List Token) (kind : ParseError) → FaultyRuleAt tokens kind rest → (front : List Token) × (tokens ≡ front ++ rest)
left_of tokens rest kind (inl h) = (h.1, h.2)
left_of tokens rest kind (inr (c, middle, r, s)) =
    let part = read_part tokens middle c r in
    (part.0 ++ s.1, part.1 ∙ ap (λ l. part.0 ++ l) s.2 ∙ sym (append_assoc part.0 s.1 rest))

-- the fault and the tokens that it leaves
abbrev Placed : Type 0
Placed = Option (ParseError × List Token)

abbrev samples_place_of : SampleOutcome → Placed
samples_place_of (Ok (sections, rest)) = None
samples_place_of (Err place) = Some place

abbrev place_of : Outcome → Placed
place_of (Ok (c, middle)) = samples_place_of (run_samples (after_sections []) middle)
place_of (Err place) = Some place

-- the readers give those that the tokens have
is_place : (tokens rest : List Token) (kind : ParseError) → FaultyRuleAt tokens kind rest → place_of (run begin tokens) ≡ Some (kind, rest)
is_place tokens rest kind (inl h) = ap place_of (faulty_run tokens kind rest h)
is_place tokens rest kind (inr (c, middle, r, s)) =
    ap place_of (reads_run tokens c middle r) ∙ ap samples_place_of (faulty_samples_run middle kind rest s)

-- one that is present is the only one
one_present : (o : Placed) (x y : ParseError × List Token) → o ≡ Some x → o ≡ Some y → x ≡ y
one_present o x y h k = cc

one_place : (tokens a b : List Token) (e f : ParseError) → FaultyRuleAt tokens e a → FaultyRuleAt tokens f b
    → ◌≡◌ {A = ParseError × List Token} (e, a) (f, b)
one_place tokens a b e f h k = one_present (place_of (run begin tokens)) (e, a) (f, b) (is_place tokens a e h) (is_place tokens b f k)

-- what leaves tokens there is a fault of the rule
is_fault : (tokens rest : List Token) (kind : ParseError) → FaultyRuleAt tokens kind rest → FaultyRule tokens kind
is_fault tokens rest kind (inl h) = inl (placed_fault tokens kind rest h)
is_fault tokens rest kind (inr (c, middle, r, s)) = inr (c, middle, r, placed_samples_fault middle kind rest s)

-- ---- of a text

-- a text has one list of tokens
same_tokens : (text : List ℕ) (a b : List Token) → AreTokensOf text a → AreTokensOf text b → a ≡ b
same_tokens text a b h k = tokens_are text a h ∙ sym (tokens_are text b k)

-- a rule and a fault aren't read of the same tokens
not_both : (o : RuleOutcome) (r : Rule) (e : ParseError) → o ≡ Ok r → o ≡ Err e → ⊥
not_both o r e h k = cc

faulty_is_not_read : (text : List ℕ) (tokens rest : List Token) (kind : ParseError) → AreTokensOf text tokens
    → FaultyRuleAt tokens kind rest → TextIsRead text → ⊥
faulty_is_not_read text tokens rest kind t h (rule, (other, u, r)) =
    not_both (rule_of tokens) rule kind (reads_rule tokens rule (subst (λ l. ReadsRule l rule) (same_tokens text other tokens u t) r))
    (faulty_rule tokens kind (is_fault tokens rest kind h))

-- what is present isn't absent
some_is_not_none : {A : Type 0} {x : A} → Some x ≡ None → ⊥
some_is_not_none e = cc

some_is_one : {A : Type 0} {x y : A} → Some x ≡ Some y → x ≡ y
some_is_one e = cc

-- a text that is read has no fault
pub read_is_none : (text : List ℕ) (tokens : List Token) → AreTokensOf text tokens → (rule : Rule) × ReadsRule tokens rule
    → (◌≡◌ {A = Option RuleFault} None None) ↔ TextIsRead text
read_is_none text tokens t (rule, r) = ((λ _. (rule, (tokens, t, r))), (λ _. refl))

pub none_of_read : (text : List ℕ) (tokens : List Token) → AreTokensOf text tokens → (rule : Rule) × ReadsRule tokens rule
    → (f : RuleFault) → (None ≡ Some f) ↔ TextFaultyAt text f.kind f.byte
none_of_read text tokens t (rule, r) f =
    ((λ e. absurd (some_is_not_none (sym e))), (λ h. absurd (faulty_is_not_read text h.0 h.1 f.kind h.2 h.3 (rule, (tokens, t, r)))))

-- the fault that is returned
abbrev pub found : ParseError → ℕ → Option RuleFault
found kind byte = Some (record { kind = kind; byte = byte })

-- a fault that was found isn't read
pub fault_is_not_read : (text : List ℕ) (tokens rest : List Token) (kind : ParseError) (byte : ℕ) → AreTokensOf text tokens
    → FaultyRuleAt tokens kind rest → (found kind byte ≡ None) ↔ TextIsRead text
fault_is_not_read text tokens rest kind byte t h =
    ((λ e. absurd (some_is_not_none e)), (λ k. absurd (faulty_is_not_read text tokens rest kind t h k)))

-- and is the text's only one
pub fault_is : (text : List ℕ) (tokens rest : List Token) (kind : ParseError) (byte : ℕ) → AreTokensOf text tokens
    → FaultyRuleAt tokens kind rest → StandsAt text byte rest
    → (f : RuleFault) → (found kind byte ≡ Some f) ↔ TextFaultyAt text f.kind f.byte
fault_is text tokens rest kind byte t h s f = (
  (λ e. subst (λ (g : RuleFault). TextFaultyAt text g.kind g.byte) (some_is_one e) (tokens, rest, t, h, s)),
  (λ k.
      let same = one_place tokens rest k.1 kind f.kind h
      (subst (λ l. FaultyRuleAt l f.kind k.1) (same_tokens text k.0 tokens k.2 t) k.3) in
      let byte_is = one_byte text byte f.byte k.1 (subst (StandsAt text byte) (λ i. (same i).1) s) k.4 in
      λ i. found (same i).0 (byte_is i)),
)
