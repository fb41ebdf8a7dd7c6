-- Rules of texts are those of every reading of these texts.
use Rattle.std.proofs.Common.{◌≡◌, ℕ, List, sym, subst, ◌∙◌, Option, Some, None, Ok, inl, inr}
use Rattle.plural_reference.specs.declared.ast.Condition.{Condition}
use Rattle.plural_reference.specs.Parser.{Reads}
use Rattle.plural_reference.specs.Lexer.{TextReads}
use Rattle.plural_reference.specs.ReadingLaws.{HaveOneListOfTokens, HaveOneReading}
use Rattle.plural_reference.specs.Samples.{ReadsCondition}
use Rattle.plural_runtime.specs.PackedRelations.{PackedRelation}
use Rattle.plural_runtime.specs.PackedTree.{packing}
use Rattle.plural_runtime.specs.RuleOfText.{IsPackedFrom}
use Rattle.plural_base.specs.FiveRules.{Paired}
use Rattle.plural_base.specs.RuleTexts.{IsRuleOf, IsAnswerFor, HaveEveryReading}

-- two readings of a text are one condition
one_condition : HaveOneListOfTokens → HaveOneReading → (text : List ℕ) (a b : Condition)
    → TextReads Reads text a → TextReads Reads text b → a ≡ b
one_condition one_list one_reading text a b g h =
    let tokens = one_list text in
    let first : Reads tokens.0 a = subst (λ ts. Reads ts a) (tokens.2 g.0 g.1) g.2 in
    let second : Reads tokens.0 b = subst (λ ts. Reads ts b) (tokens.2 h.0 h.1) h.2 in
    elim (one_reading tokens.0) [
      | inl one ↦ one.0.2 a first ∙ sym (one.0.2 b second)
      | inr one ↦ absurd (one.1 a first)
    ]

-- a text that is read as a rule is read as its condition
condition_of_rule : (text : List ℕ) (condition : Condition) → TextReads ReadsCondition text condition → TextReads Reads text condition
condition_of_rule text condition h =
    let P : Condition → Type 0 = λ c. TextReads Reads text c in
    let read = h.2.1 in
    subst P h.2.2 (h.0, h.1, (read.0, read.1))

-- the condition that is read from a text that gives a rule is the rule's condition, which packs to
-- the rule
rule_again : HaveOneListOfTokens → HaveOneReading → (text : List ℕ) (condition : Condition) (rule : List PackedRelation)
    → IsPackedFrom text (Ok rule) → TextReads Reads text condition → TextReads ReadsCondition text condition × (packing condition ≡ Ok rule)
rule_again one_list one_reading text condition rule known reading =
    let P : Condition → Type 0 = λ c. TextReads ReadsCondition text c × (packing c ≡ Ok rule) in
    subst P (one_condition one_list one_reading text known.0 condition (condition_of_rule text known.0 known.1) reading)
    (known.1, sym known.2)

-- so it is if the text may be absent
optional_again : HaveOneListOfTokens → HaveOneReading
    → (text : Option (List ℕ)) (condition : Option Condition) (rule : Option (List PackedRelation))
    → IsRuleOf text rule → Paired (TextReads Reads) text condition
    → Paired (TextReads ReadsCondition) text condition × Paired (λ c r. packing c ≡ Ok r) condition rule
optional_again one_list one_reading None None None gives reading = (tt, tt)
optional_again one_list one_reading (Some text) (Some condition) (Some rule) gives reading =
    rule_again one_list one_reading text condition rule gives reading
optional_again one_list one_reading None None (Some rule) gives reading = absurd gives
optional_again one_list one_reading (Some text) (Some condition) None gives reading = absurd gives
optional_again one_list one_reading None (Some condition) rule gives reading = absurd reading
optional_again one_list one_reading (Some text) None rule gives reading = absurd reading

-- by the conditions that are read
pub every_condition : HaveOneListOfTokens → HaveOneReading → HaveEveryReading (TextReads Reads)
every_condition one_list one_reading = λ texts conditions rules gives readings.
    let again = optional_again one_list one_reading in
    let zero = again texts.zero conditions.zero rules.zero gives.zero readings.zero in
    let one = again texts.one conditions.one rules.one gives.one readings.one in
    let two = again texts.two conditions.two rules.two gives.two readings.two in
    let few = again texts.few conditions.few rules.few gives.few readings.few in
    let many = again texts.many conditions.many rules.many gives.many readings.many in (
      record { zero = zero.0; one = one.0; two = two.0; few = few.0; many = many.0 },
      record { zero = zero.1; one = one.1; two = two.1; few = few.1; many = many.1 },
    )

-- ---- Readings of other kinds

-- what is read from a text is read as a condition
abbrev AreConditions : (List ℕ → Condition → Type 0) → Type 0
AreConditions Read = (text : List ℕ) (condition : Condition) → Read text condition → TextReads Reads text condition

-- so it is if the text may be absent
as_condition : (Read : List ℕ → Condition → Type 0) → AreConditions Read → (text : Option (List ℕ)) (condition : Option Condition)
    → Paired Read text condition → Paired (TextReads Reads) text condition
as_condition Read to None None reading = reading
as_condition Read to (Some text) (Some condition) reading = to text condition reading
as_condition Read to None (Some condition) reading = absurd reading
as_condition Read to (Some text) None reading = absurd reading

-- by every relation whose readings are read as conditions
every_reading : (Read : List ℕ → Condition → Type 0) → AreConditions Read → HaveOneListOfTokens → HaveOneReading
    → HaveEveryReading Read
every_reading Read to one_list one_reading = λ texts conditions rules gives readings.
    every_condition one_list one_reading texts conditions rules gives (record {
      zero = as_condition Read to texts.zero conditions.zero readings.zero;
      one = as_condition Read to texts.one conditions.one readings.one;
      two = as_condition Read to texts.two conditions.two readings.two;
      few = as_condition Read to texts.few conditions.few readings.few;
      many = as_condition Read to texts.many conditions.many readings.many;
    })

-- by the rules that are read
pub every_rule : HaveOneListOfTokens → HaveOneReading → HaveEveryReading (TextReads ReadsCondition)
every_rule = every_reading (TextReads ReadsCondition) condition_of_rule

-- by the conditions that the parser returns
pub every_answer : HaveOneListOfTokens → HaveOneReading → HaveEveryReading IsAnswerFor
every_answer one_list one_reading =
    let read : AreConditions IsAnswerFor = λ text condition h.
    let tokens = one_list text in (tokens.0, tokens.1, h tokens.0 tokens.1) in
    every_reading IsAnswerFor read one_list one_reading
