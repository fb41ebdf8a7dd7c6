-- Tokens are a rule if and only if reading them leaves none.
use Rattle.std.proofs.Common.{◌≡◌, ◌∷◌, ◌++◌, ◌⊎◌, ◌↔◌, ℕ, List, [], Bool, false, Option, Ok, Err, refl, sym, ap, ◌∙◌, subst, inl, inr}
use Rattle.std.specs.Prelude.{IfSome, IsTrue}
use Rattle.std.proofs.lemmas.Bool.{false≢true}
use Rattle.std.proofs.lemmas.List.{append-nil}
use Rattle.plural_reference.specs.declared.ast.Condition.{Condition}
use Rattle.plural_reference.specs.declared.ast.Samples as samples
use Rattle.plural_reference.specs.declared.error.ParseError.{ParseError}
use Rattle.plural_reference.specs.declared.token.Token.{Token}
use Rattle.plural_reference.specs.Lexer.{AreTokensOf, first}
use Rattle.plural_reference.specs.Parser.{Continues, IsCondition, IsUnconditional, ReadsUpTo}
use Rattle.plural_reference.specs.Samples.{AreSections, IsRule, Section, TextIsRule}
use Rattle.plural_reference.specs.Inner.Reader.{Outcome, begin, run}
use Rattle.plural_reference.specs.Inner.SampleReading.SampleReader.{ReadsAllSamples, ReadsStored, SampleOutcome, after_sections, run_samples}
use Rattle.plural_reference.proofs.tokens.ScanSound.{tokens_are}
use Rattle.plural_reference.proofs.reading.ReaderComplete.{reads_run}
use Rattle.plural_reference.proofs.reading.ReaderSound.{Said, said}
use Rattle.plural_reference.proofs.samples.SampleComplete.{reads_samples_run}
use Rattle.plural_reference.proofs.samples.SampleSound.{ReadsSections, SaidSamples, said_samples}

-- ---- What was read to its end is a rule

-- tokens of a condition or none
abbrev MayBeCondition : List Token → Type 0
MayBeCondition tokens = (tokens ≡ []) ⊎ ((c : Condition) × IsCondition tokens c)

-- what was read of the tokens is a condition or nothing
pub read_part : (tokens middle : List Token) (c : Condition) → ReadsUpTo tokens c middle
    → (part : List Token) × (tokens ≡ part ++ middle) × MayBeCondition part
read_part tokens middle c (inl (empty, rest, none)) = ([], sym rest, inl refl)
read_part tokens middle c (inr (spelled, front, is, ends)) = (spelled, front, inr (c, is))

-- samples that are read to their end
whole_samples : (tokens : List Token) (sections : List Section) → ReadsSections tokens sections [] → AreSections tokens sections
whole_samples tokens sections (spelled, all, are, ends) =
    subst (λ l. AreSections l sections) (sym (all ∙ append-nil spelled)) are

whole_rule : (tokens middle : List Token) (c : Condition) (sections : List Section)
    → run begin tokens ≡ Ok (c, middle) → run_samples (after_sections []) middle ≡ Ok (sections, []) → IsRule tokens
whole_rule tokens middle c sections read then =
    let part = read_part tokens middle c (subst (Said tokens) read (said tokens)) in
    let are = whole_samples middle sections (subst (SaidSamples middle) then (said_samples middle)) in
    (part.0, middle, part.1, part.2, (sections, are))

-- ---- A rule is read to its end

-- samples begin with At, if there are any
samples_begin : (tokens : List Token) (sections : List Section) → AreSections tokens sections → IsUnconditional tokens
samples_begin tokens [] none = subst IsUnconditional (sym none) tt
samples_begin tokens (s ∷ ss) are = subst IsUnconditional (sym are.2) tt

-- and so they don't continue a condition
samples_end : (c : Condition) (tokens : List Token) (sections : List Section) → AreSections tokens sections
    → IfSome (first tokens) (λ t. ¬ (Continues c t))
samples_end c tokens [] none = subst (λ l. IfSome (first l) (λ t. ¬ (Continues c t))) (sym none) tt
samples_end c tokens (s ∷ ss) are =
    subst (λ l. IfSome (first l) (λ t. ¬ (Continues c t))) (sym are.2) (λ never. never)

-- the condition before samples is read up to them
reads_before : (part left : List Token) (sections : List Section) → MayBeCondition part → AreSections left sections
    → (c : Condition) × ReadsUpTo (part ++ left) c left
reads_before part left sections (inl none) are =
    (record { 0 = [] }, inl (refl, sym (ap (λ l. l ++ left) none), subst (λ l. IsUnconditional (l ++ left)) (sym none) (samples_begin left sections are)))
reads_before part left sections (inr (c, is)) are = (c, inr (part, refl, is, samples_end c left sections are))

-- both are read, and nothing is left
record ReadsAll (tokens : List Token) : Type 0 where
  c : Condition
  middle : List Token
  sections : List Section
  condition : run begin tokens ≡ Ok (c, middle)
  samples : run_samples (after_sections []) middle ≡ Ok (sections, [])

reads_all : (tokens : List Token) → IsRule tokens → ReadsAll tokens
reads_all tokens (part, left, all, is, (sections, are)) =
    let before = reads_before part left sections is are in
    record {
      c = before.0;
      middle = left;
      sections = sections;
      condition = reads_run tokens before.0 left (subst (λ l. ReadsUpTo l before.0 left) (sym all) before.1);
      samples = reads_samples_run left sections [] (left, sym (append-nil left), are, tt);
    }

-- ---- What the parser finds

-- an outcome isn't a condition and a fault at once
no_condition : (o : Outcome) (c : Condition) (rest left : List Token) (kind : ParseError) → o ≡ Ok (c, rest) → o ≡ Err (kind, left) → ⊥
no_condition o c rest left kind h k = cc

no_samples : (o : SampleOutcome) (ss : List Section) (rest left : List Token) (kind : ParseError)
    → o ≡ Ok (ss, rest) → o ≡ Err (kind, left) → ⊥
no_samples o ss rest left kind h k = cc

-- the rests of equal outcomes are equal
same_middle : (o : Outcome) (c d : Condition) (a b : List Token) → o ≡ Ok (c, a) → o ≡ Ok (d, b) → a ≡ b
same_middle o c d a b h k =
    let same : ◌≡◌ {A = Condition × List Token} (c, a) (d, b) = cc in ap (λ (p : Condition × List Token). p.1) same

same_rest : (o : SampleOutcome) (r s : List Section) (a b : List Token) → o ≡ Ok (r, a) → o ≡ Ok (s, b) → a ≡ b
same_rest o r s a b h k =
    let same : ◌≡◌ {A = List Section × List Token} (r, a) (s, b) = cc in ap (λ (p : List Section × List Token). p.1) same

pub condition_refused : (tokens left : List Token) (kind : ParseError) → run begin tokens ≡ Err (kind, left) → ¬ (IsRule tokens)
condition_refused tokens left kind h rule =
    let all = reads_all tokens rule in
    no_condition (run begin tokens) all.c all.middle left kind all.condition h

-- samples after the same condition
samples_after : (tokens middle : List Token) (c : Condition) → run begin tokens ≡ Ok (c, middle) → (all : ReadsAll tokens)
    → run_samples (after_sections []) middle ≡ Ok (all.sections, [])
samples_after tokens middle c read all =
    let same = same_middle (run begin tokens) all.c c all.middle middle all.condition read in
    subst (λ l. run_samples (after_sections []) l ≡ Ok (all.sections, [])) same all.samples

pub samples_refused : (tokens middle left : List Token) (c : Condition) (kind : ParseError)
    → run begin tokens ≡ Ok (c, middle) → run_samples (after_sections []) middle ≡ Err (kind, left) → ¬ (IsRule tokens)
samples_refused tokens middle left c kind read h rule =
    let all = reads_all tokens rule in
    no_samples (run_samples (after_sections []) middle) all.sections [] left kind (samples_after tokens middle c read all) h

-- it is a rule if and only if nothing is left
pub rule_if_at_end : (tokens middle rest : List Token) (c : Condition) (stored : Option samples.Samples) (whole : Bool)
    → run begin tokens ≡ Ok (c, middle) → ReadsStored false ReadsAllSamples middle stored rest
    → IsTrue whole ↔ (rest ≡ []) → IsTrue whole ↔ IsRule tokens
rule_if_at_end tokens middle rest c stored whole read then end = (
  (λ is. whole_rule tokens middle c then.2.sections read
      (subst (λ l. run_samples (after_sections []) middle ≡ Ok (then.2.sections, l)) (end.0 is) then.2.run_is)),
  (λ rule.
      let all = reads_all tokens rule in
      end.1 (same_rest (run_samples (after_sections []) middle) then.2.sections all.sections rest [] then.2.run_is
      (samples_after tokens middle c read all))),
)

-- ---- Of a text

-- a text has one list of tokens
pub text_is_rule : (text : List ℕ) (tokens : List Token) (whole : Bool) → AreTokensOf text tokens
    → IsTrue whole ↔ IsRule tokens → IsTrue whole ↔ TextIsRule text
text_is_rule text tokens whole are rule = (
  (λ is. (tokens, are, rule.0 is)),
  (λ is. rule.1 (subst IsRule (tokens_are text is.0 is.1 ∙ sym (tokens_are text tokens are)) is.2)),
)

-- tokens that are no rule
pub text_is_no_rule : (text : List ℕ) (tokens : List Token) → AreTokensOf text tokens → ¬ (IsRule tokens)
    → IsTrue false ↔ TextIsRule text
text_is_no_rule text tokens are none =
    text_is_rule text tokens false are ((λ never. absurd (false≢true never)), (λ rule. absurd (none rule)))
