-- The printed text of a rule and of its parts, in the syntax of UTS 35 Part 3, Plural Rules Syntax
-- and Samples.
use Rattle.std.specs.Prelude.{ℕ, List, [], ◌∷◌, ◌++◌, Bool, true, false, Option, Some, None, codes}
use Rattle.std.specs.Fmt.{decimal}
use Rattle.plural_reference.specs.declared.ast.AndCondition.{AndCondition}
use Rattle.plural_reference.specs.declared.ast.Condition.{Condition}
use Rattle.plural_reference.specs.declared.ast.DecimalValue.{DecimalValue}
use Rattle.plural_reference.specs.declared.ast.Expression.{Expression}
use Rattle.plural_reference.specs.declared.ast.Operator.{Operator}
use Rattle.plural_reference.specs.declared.ast.Operator.TheVariants.{Eq, NotEq}
use Rattle.plural_reference.specs.declared.ast.RangeList.{RangeList}
use Rattle.plural_reference.specs.declared.ast.RangeListItem.{RangeListItem}
use Rattle.plural_reference.specs.declared.ast.RangeListItem.TheVariants as items
use Rattle.plural_reference.specs.declared.ast.Relation.{Relation}
use Rattle.plural_reference.specs.declared.ast.Rule.{Rule}
use Rattle.plural_reference.specs.declared.ast.SampleList.{SampleList}
use Rattle.plural_reference.specs.declared.ast.SampleRange.{SampleRange}
use Rattle.plural_reference.specs.declared.ast.Samples.{Samples}
use Rattle.plural_reference.specs.declared.ast.Value.{Value}
use Rattle.plural_operands.specs.Operands.{operand_text}
use Rattle.plural_reference.specs.Lexer.{ellipsis}

-- the texts of the parts, with the separator between neighbours (`join_by` of std, but one part and
-- its separator at a time, as the proofs over texts go)
abbrev pub joined : {A : Type 0} → List ℕ → (A → List ℕ) → List A → List ℕ
joined separator text [] = []
joined separator text (x ∷ []) = text x
joined separator text (x ∷ y ∷ ys) = text x ++ separator ++ joined separator text (y ∷ ys)

-- the text before that of a part that is present, or nothing
abbrev pub prefixed : {A : Type 0} → List ℕ → (A → List ℕ) → Option A → List ℕ
prefixed before text None = []
prefixed before text (Some x) = before ++ text x

-- a number in decimal, without leading zeros
abbrev pub value_text : Value → List ℕ
value_text v = decimal v.0

-- `=` or `!=`
abbrev pub operator_text : Operator → List ℕ
operator_text Eq = codes "="
operator_text NotEq = codes "!="

-- the operand, then with a modulus ` % ` and its value
abbrev pub expression_text : Expression → List ℕ
expression_text e = operand_text e.operand ++ prefixed (codes " % ") value_text e.modulus

-- a value, or two with `..` between them
abbrev pub item_text : RangeListItem → List ℕ
item_text (items.Value v) = value_text v
item_text (items.Range a b) = value_text a ++ codes ".." ++ value_text b

-- the items, with `, ` between them
abbrev pub range_list_text : RangeList → List ℕ
range_list_text l = joined (codes ", ") item_text l.0

-- the expression, the operator and the list, with a space between them
abbrev pub relation_text : Relation → List ℕ
relation_text r = expression_text r.expression ++ codes " " ++ operator_text r.operator ++ codes " " ++ range_list_text r.range_list

-- the relations, with ` and ` between them
abbrev pub and_condition_text : AndCondition → List ℕ
and_condition_text c = joined (codes " and ") relation_text c.0

-- the and-conditions, with ` or ` between them
abbrev pub condition_text : Condition → List ℕ
condition_text c = joined (codes " or ") and_condition_text c.0

-- a sample's text as it is
abbrev pub sample_text : DecimalValue → List ℕ
sample_text s = s

-- one sample, or two with `~` between them
abbrev pub sample_range_text : SampleRange → List ℕ
sample_range_text r = sample_text r.lower_val ++ prefixed (codes "~") sample_text r.upper_val

-- `, …` if the list has an ellipsis
abbrev pub ellipsis_text : Bool → List ℕ
ellipsis_text false = []
ellipsis_text true = codes ", " ++ ellipsis

-- the ranges, with `, ` between them, and the ellipsis
abbrev pub sample_list_text : SampleList → List ℕ
sample_list_text l = joined (codes ", ") sample_range_text l.sample_ranges ++ ellipsis_text l.ellipsis

-- the list of integers and the list of decimals, each after its name, as far as they are present
abbrev pub samples_text : Samples → List ℕ
samples_text s = prefixed (codes " @integer ") sample_list_text s.integer ++ prefixed (codes " @decimal ") sample_list_text s.decimal

-- the condition, then the samples if the rule has any
abbrev pub rule_text : Rule → List ℕ
rule_text r = condition_text r.condition ++ prefixed [] samples_text r.samples
