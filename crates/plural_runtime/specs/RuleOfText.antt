-- What a text gives as a rule: the relations that its condition is packed to, or the reason why it
-- gives none.
--     IsPackedFrom text answer      the text is read, and this is the result of packing it
--     TextGives text answer      the text gives this, by the grammar
--     rule_of_text text      what the text gives, by a reader
-- The last two agree (`laws::texts_give_one_answer`).
use Rattle.std.specs.Prelude.{◌≡◌, ◌⊎◌, ◌↔◌, ℕ, List, Result, Ok, Err, codes}
use Rattle.plural_reference.specs.declared.ast.Condition.{Condition}
use Rattle.plural_reference.specs.declared.error.ParseError.{ParseError}
use Rattle.plural_reference.specs.Lexer.{TextReads, TextFaulty}
use Rattle.plural_reference.specs.Samples.{ReadsCondition, FaultyRule}
use Rattle.plural_reference.specs.Inner.RuleReader.{condition_of_text}
use Rattle.plural_reference.specs.PluralReferenceErrors.{parse_error_text}
use Rattle.plural_runtime.specs.declared.error.RuleError.{RuleError}
use Rattle.plural_runtime.specs.declared.error.RuleError.TheVariants.{Parse, StartLimit, Memory}
use Rattle.plural_runtime.specs.PackedRelations.{PackedRelation}
use Rattle.plural_runtime.specs.PackedTree.{packing}

-- the text is read as a condition, and this is the result of packing it
abbrev pub IsPackedFrom : List ℕ → Result (List PackedRelation) RuleError → Type 0
IsPackedFrom text answer = (condition : Condition) × TextReads ReadsCondition text condition × (answer ≡ packing condition)

-- this is the result of packing the text, or the text has this fault
abbrev pub TextGives : List ℕ → Result (List PackedRelation) RuleError → Type 0
TextGives text answer = IsPackedFrom text answer ⊎ ((kind : ParseError) × TextFaulty FaultyRule text kind × (answer ≡ Err (Parse kind)))

-- ---- By a function

-- the relations of a rule, or why the text gives none
abbrev pub RuleAnswer : Type 0
RuleAnswer = Result (List PackedRelation) RuleError

-- the result of packing the condition that was read; otherwise the fault
abbrev pub packing_of : Result Condition ParseError → RuleAnswer
packing_of (Ok condition) = packing condition
packing_of (Err kind) = Err (Parse kind)

-- what a text gives
unfoldable pub rule_of_text : List ℕ → RuleAnswer
rule_of_text text = packing_of (condition_of_text text)

-- every text gives exactly one result: that of the function
abbrev pub TextsGiveOneAnswer : Type 0
TextsGiveOneAnswer = (text : List ℕ) (answer : RuleAnswer) → TextGives text answer ↔ (answer ≡ rule_of_text text)

-- ---- The texts that the errors print

-- why a rule can't be packed
abbrev pub rule_error_text : RuleError → List ℕ
rule_error_text (Parse fault) = parse_error_text fault
rule_error_text StartLimit = codes "rule too long"
rule_error_text Memory = codes "out of memory"
