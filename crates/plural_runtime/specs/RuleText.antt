-- The printed text of packed relations, one after the other, for private contracts; printed rules
-- pack again.
use Rattle.std.specs.Prelude.{ℕ, List, [], ◌∷◌, ◌++◌, codes, Bool, true, false, if◌then◌else◌, ◌==◌, ◌≡◌, None, Ok}
use Rattle.std.specs.Fmt.{decimal}
use Rattle.plural_reference.specs.declared.ast.Operator.{Operator}
use Rattle.plural_reference.specs.Serializer.{joined, operator_text, condition_text}
use Rattle.plural_operands.specs.Operands.{operand_text}
use Rattle.plural_reference.specs.Truth.{RelationMeaning}
use Rattle.plural_runtime.specs.declared.kinds.AndOr.{AndOr}
use Rattle.plural_runtime.specs.declared.kinds.AndOr.TheVariants.{And, Or}
use Rattle.plural_runtime.specs.declared.range.RangeOrValue.{RangeOrValue}
use Rattle.plural_runtime.specs.declared.range.RangeOrValue.TheVariants.{Range, Value}
use Rattle.plural_runtime.specs.PackedRelations.{PackedRelation}
use Rattle.plural_runtime.specs.RuleKinds.{range_or_value}
use Rattle.plural_reference.specs.declared.ast.Rule.{Rule as TreeRule}
use Rattle.plural_reference.specs.Lexer.{TextReads}
use Rattle.plural_reference.specs.Samples.{ReadsRule}
use Rattle.plural_runtime.specs.PackedTree.{unpacked, packing}

-- the text before a relation, which may be the first
abbrev pub mark_text : Bool → AndOr → List ℕ
mark_text is_first Or = codes " or "
mark_text is_first And = if is_first then [] else codes " and "

abbrev pub modulus_text : ℕ → List ℕ
modulus_text modulus = if modulus == 0 then [] else (codes " % " ++ decimal modulus)

-- the operator, with a space on each side
abbrev pub operator_shown : Operator → List ℕ
operator_shown operator = codes " " ++ operator_text operator ++ codes " "

abbrev pub range_shown : RangeOrValue → List ℕ
range_shown (Range start end) = decimal start ++ (codes ".." ++ decimal end)
range_shown (Value value) = decimal value

abbrev pub ranges_shown : List (ℕ × ℕ) → List ℕ
ranges_shown ranges = joined (codes ", ") (λ range. range_shown (range_or_value range)) ranges

abbrev pub relation_shown : RelationMeaning → List ℕ
relation_shown relation = (operand_text relation.operand ++ modulus_text relation.modulus)
    ++ (operator_shown relation.operator ++ ranges_shown relation.ranges)

-- the relations after the first one
abbrev pub others_shown : List PackedRelation → List ℕ
others_shown [] = []
others_shown (relation ∷ relations) = (mark_text false relation.and_or ++ relation_shown relation.meaning) ++ others_shown relations

abbrev pub relations_shown : List PackedRelation → List ℕ
relations_shown [] = []
relations_shown (relation ∷ relations) = (mark_text true relation.and_or ++ relation_shown relation.meaning) ++ others_shown relations

-- ---- Rules that are packed from texts, printed and packed again.

-- if a rule that is read from a text packs, its printed text is read as the tree of the packed
-- rule, and that tree packs to the same relations
abbrev pub PrintedRulesPackAgain : Type 0
PrintedRulesPackAgain = (text : List ℕ) (rule : TreeRule) (relations : List PackedRelation) → TextReads ReadsRule text rule
    → packing rule.condition ≡ Ok relations
    → TextReads ReadsRule (condition_text (unpacked relations)) (record { condition = unpacked relations; samples = None })
    × (packing (unpacked relations) ≡ Ok relations)
