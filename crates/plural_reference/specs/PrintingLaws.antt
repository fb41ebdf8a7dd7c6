-- A printed text is read as what it was printed from.
use Rattle.std.specs.Prelude.{◌≡◌, ◌≢◌, ◌≤◌, ◌++◌, ℕ, List, [], None, All, IfSome}
use Rattle.std.specs.Char.{IsAsciiDigit}
use Rattle.std.specs.Str.Parse.{digits_value}
use Rattle.plural_reference.specs.declared.ast.AndCondition.{AndCondition}
use Rattle.plural_reference.specs.declared.ast.Condition.{Condition}
use Rattle.plural_reference.specs.declared.ast.DecimalValue.{DecimalValue}
use Rattle.plural_reference.specs.declared.ast.RangeListItem.{RangeListItem}
use Rattle.plural_reference.specs.declared.ast.RangeListItem.TheVariants as items
use Rattle.plural_reference.specs.declared.ast.Relation.{Relation}
use Rattle.plural_reference.specs.declared.ast.Rule.{Rule}
use Rattle.plural_reference.specs.declared.ast.SampleList.{SampleList}
use Rattle.plural_reference.specs.declared.ast.Value.{Value}
use Rattle.plural_reference.specs.Lexer.{max_number, first, last, TextReads}
use Rattle.plural_reference.specs.Parser.{Reads}
use Rattle.plural_reference.specs.Samples.{ReadsRule}
use Rattle.plural_reference.specs.Serializer.{condition_text, rule_text}

-- ---- conditions

-- a token holds the number
abbrev pub FitsToken : Value → Type 0
FitsToken v = v.0 ≤ max_number

-- tokens hold the ends of the item
abbrev pub IsSpellableItem : RangeListItem → Type 0
IsSpellableItem (items.Value v) = FitsToken v
IsSpellableItem (items.Range a b) = FitsToken a × FitsToken b

-- the relation has an item, and tokens hold its numbers
abbrev pub IsSpellableRelation : Relation → Type 0
IsSpellableRelation r = IfSome r.expression.modulus FitsToken × (r.range_list.0 ≢ []) × All IsSpellableItem r.range_list.0

-- the and-condition has a relation, and tokens hold its numbers
abbrev pub IsSpellableGroup : AndCondition → Type 0
IsSpellableGroup group = (group.0 ≢ []) × All IsSpellableRelation group.0

-- a condition that some text spells: no group and no list of ranges is empty, and tokens hold all
-- numbers
abbrev pub IsSpellable : Condition → Type 0
IsSpellable c = All IsSpellableGroup c.0

-- what is read from a text is such a condition
abbrev pub ConditionsOfTextsAreSpellable : Type 0
ConditionsOfTextsAreSpellable = (text : List ℕ) (c : Condition) → TextReads Reads text c → IsSpellable c

-- each such condition is read from its printed text, by itself and as a rule without samples
abbrev pub SpellableConditionsPrintBack : Type 0
SpellableConditionsPrintBack = (c : Condition) → IsSpellable c
    → TextReads Reads (condition_text c) c × TextReads ReadsRule (condition_text c) (record { condition = c; samples = None })

-- a condition that was read from a text is read from its printed text
abbrev pub ConditionsPrintBack : Type 0
ConditionsPrintBack = (text : List ℕ) (c : Condition) → TextReads Reads text c → TextReads Reads (condition_text c) c

-- ---- rules

-- digits of a text with no digit before or after them
pub record IsRunIn (run text : List ℕ) : Type 0 where
  pub before : List ℕ
  pub after : List ℕ
  pub place : text ≡ before ++ run ++ after
  pub all_digits : All IsAsciiDigit run
  pub begins : IfSome (last before) (λ b. ¬ (IsAsciiDigit b))
  pub ends : IfSome (first after) (λ b. ¬ (IsAsciiDigit b))

-- a token holds the number of each run of digits of a sample, leading zeros aside
abbrev pub HasSmallRuns : DecimalValue → Type 0
HasSmallRuns text = (run : List ℕ) → IsRunIn run text → digits_value 10 run ≤ max_number

-- each sample of the list has small runs
abbrev pub ListHasSmallRuns : SampleList → Type 0
ListHasSmallRuns l = All (λ r. HasSmallRuns r.lower_val × IfSome r.upper_val HasSmallRuns) l.sample_ranges

-- each sample of the rule has small runs
abbrev pub RuleHasSmallRuns : Rule → Type 0
RuleHasSmallRuns r = IfSome r.samples (λ s. IfSome s.integer ListHasSmallRuns × IfSome s.decimal ListHasSmallRuns)

-- a rule that was read from a text, and whose samples have small runs, is read from its printed
-- text
abbrev pub RulesPrintBack : Type 0
RulesPrintBack = (text : List ℕ) (r : Rule) → TextReads ReadsRule text r → RuleHasSmallRuns r → TextReads ReadsRule (rule_text r) r
