-- What is read from a text.
use Rattle.std.proofs.Common.{◌≡◌, ◌≢◌, ◌≤◌, ◌⊎◌, ℕ, false, List, Option, Some, None, Ok, Err, refl, sym, ap, inl, inr, subst, length, arith}
use Rattle.std.specs.Prelude.{IsSomeAnd, IsTrue}
use Rattle.std.proofs.lemmas.Bool.{ltb-false}
use Rattle.icu_plurals.specs.declared.Five.{Five}
use Rattle.icu_plurals.specs.declared.PluralCategory.TheVariants.{Zero, One, Two, Few, Many}
use Rattle.icu_plurals.specs.declared.provider.rules.reference.ParseError.{ParseError}
use Rattle.icu_plurals.specs.declared.provider.rules.reference.ReadError.TheVariants as read
use Rattle.icu_plurals.specs.declared.provider.rules.reference.Token.{Token}
use Rattle.icu_plurals.specs.declared.provider.rules.reference.ast.Rule as tree
use Rattle.icu_plurals.specs.declared.provider.rules.runtime.ast.RuleError.{RuleError}
use Rattle.icu_plurals.specs.declared.provider.rules.runtime.ast.RuleError.TheVariants.{Memory, Parse}
use Rattle.icu_plurals.specs.FiveRules.{five, passes}
use Rattle.icu_plurals.specs.Lexer.{AreTokensOf, TextReads, TextFaulty}
use Rattle.icu_plurals.specs.PackedRelations.{PackedRelation}
use Rattle.icu_plurals.specs.PackedTree.{packed, Packs}
use Rattle.icu_plurals.specs.Reading.{AnswersExactly, AnswersUnlessMemory}
use Rattle.icu_plurals.specs.RuleOfText.{IsPackedFrom}
use Rattle.icu_plurals.specs.RuleTexts.{IsRefused}
use Rattle.icu_plurals.specs.Samples.{ReadsCondition, ReadsRule, FaultyRule}
use Rattle.plural_reference.specs.FaultPlaces.{FaultyRuleAt, TextFaultyAt, TextIsRead}
use Rattle.plural_reference.specs.PrintingLaws.{ConditionsOfTextsAreSpellable}
use Rattle.plural_reference.specs.declared.parser.fault.RuleFault.{RuleFault}
use Rattle.plural_checker.specs.Inner.TextReadings.{HasNoRule, IfRefused, IsRuleReading, IsShortRuleOf}
use Rattle.plural_checker.specs.LanguageTexts.{is_long}
use Rattle.plural_checker.specs.TextChecks.{AreRulesIfRead, IsReadAsRule}
use Rattle.plural_checker.specs.declared.read_text.NoRule.{NoRule}
use Rattle.plural_checker.specs.declared.read_text.NoRule.TheVariants as norule
use Rattle.plural_checker.specs.declared.read_text.Reading.TheVariants.{Refused, Rule}
use Rattle.plural_checker.proofs.FewBytes.{few_tokens}

-- a rule is read from the tokens
pub reads_rule : (text bytes : List ℕ) (tokens : List Token) (rule : tree.Rule) → bytes ≡ text → is_long text ≡ false
    → AreTokensOf bytes tokens → length tokens ≤ length bytes → ConditionsOfTextsAreSpellable
    → AnswersExactly ReadsRule FaultyRule bytes (Ok rule) → IsRuleReading text (Rule rule)
reads_rule text bytes tokens rule is short are few spellable answers =
    let reads : ReadsRule tokens rule = answers.only tokens are in
    let same : length bytes ≡ length text = ap length is in
    let low : length text ≤ 1024 = ltb-false 1024 (length text) short in (
      short,
      subst (λ b. TextReads ReadsRule b rule) is (tokens, are, reads),
      few_tokens tokens reads.0 rule.condition (omega arith)
          (spellable bytes rule.condition (tokens, are, (reads.0, reads.1))) reads.1,
    )

-- a text with a fault isn't read
pub is_not_read : (bytes : List ℕ) (kind : ParseError) → AnswersExactly ReadsRule FaultyRule bytes (Err (read.Parse kind))
    → ¬ (TextIsRead bytes)
is_not_read bytes kind answers (rule, (tokens, are, reads)) = by (answers.read tokens rule are reads)
  where
    by : AnswersUnlessMemory (Err (read.Parse kind)) (Ok rule) → ⊥
    by (inl same) = cc
    by (inr same) = cc

-- tokens with a fault at a place have it
faulty_there : (tokens rest : List Token) (kind : ParseError) → FaultyRuleAt tokens kind rest → FaultyRule tokens kind
faulty_there tokens rest kind (inl (place, before, is, waits, has)) = inl (place, before, rest, is, waits, has)
faulty_there tokens rest kind (inr (c, middle, reads, (place, before, is, waits, has))) =
    inr (c, middle, reads, (place, before, rest, is, waits, has))

-- a text with this fault
pub reads_fault : (text bytes : List ℕ) (fault : RuleFault) → bytes ≡ text → is_long text ≡ false
    → TextFaultyAt bytes fault.kind fault.byte → IsRuleReading text (Refused fault)
reads_fault text bytes fault is short (tokens, rest, are, faulty, stands) = (
  short,
  inr (fault.kind, subst (λ b. TextFaulty FaultyRule b fault.kind) is (tokens, are, faulty_there tokens rest fault.kind faulty), refl),
  subst (λ b. TextFaultyAt b fault.kind fault.byte) is (tokens, rest, are, faulty, stands),
)

-- the text is read as the rule's condition
reads_condition : (text : List ℕ) (rule : tree.Rule) → TextReads ReadsRule text rule → TextReads ReadsCondition text rule.condition
reads_condition text rule (tokens, are, reads) = (tokens, are, (rule, reads, refl))

-- a rule that is read and can be packed
pub read_as_rule : (text : List ℕ) (rule : tree.Rule) → IsRuleReading text (Rule rule) → IsReadAsRule text (Ok rule)
read_as_rule text rule (short, reads, packs) =
    (reads, (packed rule.condition, inl (rule.condition, reads_condition text rule reads, sym packs)))

-- what a rule that is read is packed to
pub packed_from : (text : List ℕ) (rule : tree.Rule) (relations : List PackedRelation) → IsRuleReading text (Rule rule)
    → Packs rule.condition (Ok relations) → IsPackedFrom text (Ok relations)
packed_from text rule relations (short, reads, packs) (inl is) = (rule.condition, reads_condition text rule reads, is)
packed_from text rule relations reading (inr none) = absurd cc

-- ---- The rules of five texts

-- what follows from a refusal
pub if_refused : (why : NoRule) (Fact More : Type 0) → (Fact → More) → IfRefused why Fact → IfRefused why More
if_refused norule.Refused Fact More follows fact = follows fact
if_refused norule.Memory Fact More follows fact = tt

-- a text that has no rule is long, or refused for a reason other than out of memory
refusal : (text : Option (List ℕ)) → IsSomeAnd text HasNoRule
    → IsTrue (passes is_long text) ⊎ ((error : RuleError) × IsRefused text error × (error ≢ Memory))
refusal None none = absurd none
refusal (Some text) (inl long) = inl long
refusal (Some text) (inr (fault, gives)) = inr (Parse fault, inl gives, λ same. cc)

module _ (texts : Five (Option (List ℕ))) where
  abbrev NoRules : Type 0
  NoRules = AreRulesIfRead texts None

  -- the first text that has no rule
  pub no_zero : IsSomeAnd texts.zero HasNoRule → NoRules
  no_zero none = by (refusal texts.zero none)
    where
      by : IsTrue (passes is_long texts.zero) ⊎ ((error : RuleError) × IsRefused texts.zero error × (error ≢ Memory)) → NoRules
      by (inl long) = inl (rw long refl)
      by (inr (error, refused, other)) = inr (Zero, error, refused, other)

  module _ (zero : Option (List PackedRelation)) (has_zero : IsShortRuleOf texts.zero zero) where
    pub no_one : IsSomeAnd texts.one HasNoRule → NoRules
    no_one none = by (refusal texts.one none)
      where
        by : IsTrue (passes is_long texts.one) ⊎ ((error : RuleError) × IsRefused texts.one error × (error ≢ Memory)) → NoRules
        by (inl long) = inl (rw (has_zero.0, long) refl)
        by (inr (error, refused, other)) = inr (One, error, ((zero, has_zero.1), refused), other)

    module _ (one : Option (List PackedRelation)) (has_one : IsShortRuleOf texts.one one) where
      pub no_two : IsSomeAnd texts.two HasNoRule → NoRules
      no_two none = by (refusal texts.two none)
        where
          by : IsTrue (passes is_long texts.two) ⊎ ((error : RuleError) × IsRefused texts.two error × (error ≢ Memory)) → NoRules
          by (inl long) = inl (rw (has_zero.0, has_one.0, long) refl)
          by (inr (error, refused, other)) = inr (Two, error, ((zero, has_zero.1), (one, has_one.1), refused), other)

      module _ (two : Option (List PackedRelation)) (has_two : IsShortRuleOf texts.two two) where
        pub no_few : IsSomeAnd texts.few HasNoRule → NoRules
        no_few none = by (refusal texts.few none)
          where
            by : IsTrue (passes is_long texts.few) ⊎ ((error : RuleError) × IsRefused texts.few error × (error ≢ Memory)) → NoRules
            by (inl long) = inl (rw (has_zero.0, has_one.0, has_two.0, long) refl)
            by (inr (error, refused, other)) =
                inr (Few, error, ((zero, has_zero.1), (one, has_one.1), (two, has_two.1), refused), other)

        module _ (few : Option (List PackedRelation)) (has_few : IsShortRuleOf texts.few few) where
          pub no_many : IsSomeAnd texts.many HasNoRule → NoRules
          no_many none = by (refusal texts.many none)
            where
              by : IsTrue (passes is_long texts.many) ⊎ ((error : RuleError) × IsRefused texts.many error × (error ≢ Memory)) → NoRules
              by (inl long) = inl (rw (has_zero.0, has_one.0, has_two.0, has_few.0, long) refl)
              by (inr (error, refused, other)) =
                  inr (Many, error, ((zero, has_zero.1), (one, has_one.1), (two, has_two.1), (few, has_few.1), refused), other)

          -- each text that is there has its rule
          pub all_rules : (many : Option (List PackedRelation)) → IsShortRuleOf texts.many many
              → AreRulesIfRead texts (Some (five zero one two few many))
          all_rules many has_many = (
            rw (has_zero.0, has_one.0, has_two.0, has_few.0, has_many.0) refl,
            record { zero = has_zero.1; one = has_one.1; two = has_two.1; few = has_few.1; many = has_many.1 },
          )
