-- Five rules and the texts that they come from. What one text gives is said by `IsPackedFrom` and
-- `TextGives` of plural_runtime.
--     AreRulesOf texts rules      each text gives its rule, and an absent text none
--     AreReadAs texts conditions      each text is read as a rule with its condition
--     IsFirstRefused texts category error      the category's text gives no rule for this reason,
--         and those before it give some
--     HaveEveryReading Read      rules of texts are those of every reading of these texts
--         (`laws::rules_have_every_reading`)
--     texts_of zero one two few many      the texts of five references
--     lent_texts texts      the same by name
use Rattle.std.specs.Prelude.{◌≡◌, ℕ, List, Option, Some, None, Ok, Err, ◌⊎◌}
use Rattle.std.specs.Borrow.{Bor}
use Rattle.std.specs.Option.{option_copied}
use Rattle.plural_reference.specs.declared.ast.Condition.{Condition}
use Rattle.plural_reference.specs.declared.token.Token.{Token}
use Rattle.plural_reference.specs.Lexer.{AreTokensOf, TextReads}
use Rattle.plural_reference.specs.Parser.{Reads}
use Rattle.plural_reference.specs.Samples.{ReadsCondition}
use Rattle.plural_runtime.specs.declared.error.RuleError.{RuleError}
use Rattle.plural_runtime.specs.declared.error.RuleError.TheVariants.{Memory}
use Rattle.plural_runtime.specs.PackedRelations.{PackedRelation}
use Rattle.plural_runtime.specs.PackedTree.{packing}
use Rattle.plural_runtime.specs.RuleOfText.{IsPackedFrom, TextGives}
use Rattle.plural_base.specs.declared.category.PluralCategory.{PluralCategory}
use Rattle.plural_base.specs.declared.category.PluralCategory.TheVariants.{Zero, One, Two, Few, Many, Other}
use Rattle.plural_base.specs.declared.five.Five.{Five}
use Rattle.plural_base.specs.FiveRules.{five, FiveRules, Paired, ArePaired}

-- the text is read as a condition that is packed to the rule, or both are absent
abbrev pub IsRuleOf : Option (List ℕ) → Option (List PackedRelation) → Type 0
IsRuleOf = Paired (λ text rule. IsPackedFrom text (Ok rule))

-- each of the rules is that of its text
abbrev pub AreRulesOf : Five (Option (List ℕ)) → FiveRules → Type 0
AreRulesOf = ArePaired (λ text rule. IsPackedFrom text (Ok rule))

-- each of the texts is read as a rule with its condition
abbrev pub AreReadAs : Five (Option (List ℕ)) → Five (Option Condition) → Type 0
AreReadAs = ArePaired (TextReads ReadsCondition)

-- the texts of five references
abbrev pub texts_of : {A : Type 0} → Option (Bor A) → Option (Bor A) → Option (Bor A) → Option (Bor A) → Option (Bor A)
    → Five (Option A)
texts_of zero one two few many =
    five (option_copied zero) (option_copied one) (option_copied two) (option_copied few) (option_copied many)

-- the same by name
abbrev pub lent_texts : {A : Type 0} → Five (Option (Bor A)) → Five (Option A)
lent_texts texts = texts_of texts.zero texts.one texts.two texts.few texts.many

-- ---- The first text that gives no rule

-- a text is present and gives no rule for this reason, or memory ran out
abbrev pub IsRefused : Option (List ℕ) → RuleError → Type 0
IsRefused None error = ⊥
IsRefused (Some text) error = TextGives text (Err error) ⊎ (error ≡ Memory)

-- a text gives a rule, or is absent
abbrev pub IsTaken : Option (List ℕ) → Type 0
IsTaken text = (rule : Option (List PackedRelation)) × IsRuleOf text rule

-- the category's text is refused, and those before it are taken
abbrev pub IsFirstRefused : Five (Option (List ℕ)) → PluralCategory → RuleError → Type 0
IsFirstRefused texts Zero error = IsRefused texts.zero error
IsFirstRefused texts One error = IsTaken texts.zero × IsRefused texts.one error
IsFirstRefused texts Two error = IsTaken texts.zero × IsTaken texts.one × IsRefused texts.two error
IsFirstRefused texts Few error = IsTaken texts.zero × IsTaken texts.one × IsTaken texts.two × IsRefused texts.few error
IsFirstRefused texts Many error =
    IsTaken texts.zero × IsTaken texts.one × IsTaken texts.two × IsTaken texts.few × IsRefused texts.many error
IsFirstRefused texts Other error = ⊥

-- ---- Every reading

-- the condition is read from any tokens that the text has, as `parse_condition` returns it
abbrev pub IsAnswerFor : List ℕ → Condition → Type 0
IsAnswerFor text condition = (tokens : List Token) → AreTokensOf text tokens → Reads tokens condition

-- each of the rules is what its condition is packed to
abbrev pub ArePackingsOf : Five (Option Condition) → FiveRules → Type 0
ArePackingsOf = ArePaired (λ condition rule. packing condition ≡ Ok rule)

-- for all conditions that the texts of rules are read as by this relation, the texts give rules
-- with these conditions, and the rules are their packings
abbrev pub HaveEveryReading : (List ℕ → Condition → Type 0) → Type 0
HaveEveryReading Read =
    (texts : Five (Option (List ℕ))) (conditions : Five (Option Condition)) (rules : FiveRules)
    → AreRulesOf texts rules → ArePaired Read texts conditions → AreReadAs texts conditions × ArePackingsOf conditions rules
