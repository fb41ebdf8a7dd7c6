-- What the conversions of the kinds give.
use Rattle.std.specs.Prelude.{◌≡◌, ℕ, IsTrue, IsFalse, Result, Ok, Err, if◌then◌else◌, ◌==◌}
use Rattle.plural_operands.specs.declared.operand.Operand.{Operand as TreeOperand}
use Rattle.plural_operands.specs.declared.operand.Operand.TheVariants as tree
use Rattle.plural_reference.specs.declared.ast.Operator.{Operator}
use Rattle.plural_reference.specs.declared.ast.Operator.TheVariants.{Eq, NotEq}
use Rattle.plural_reference.specs.declared.ast.RangeListItem.{RangeListItem}
use Rattle.plural_reference.specs.declared.ast.RangeListItem.TheVariants as items
use Rattle.plural_reference.specs.declared.error.ParseError.{ParseError}
use Rattle.plural_reference.specs.declared.error.ParseError.TheVariants.{ValueTooLarge}
use Rattle.plural_runtime.specs.declared.kinds.Polarity.{Polarity}
use Rattle.plural_runtime.specs.declared.kinds.Polarity.TheVariants.{Negative, Positive}
use Rattle.plural_runtime.specs.declared.kinds.Operand.{Operand}
use Rattle.plural_runtime.specs.declared.kinds.Operand.TheVariants.{N, I, V, W, F, T, C, E}
use Rattle.plural_runtime.specs.declared.range.RangeOrValue.{RangeOrValue}
use Rattle.plural_runtime.specs.declared.range.RangeOrValue.TheVariants.{Range, Value}
use Rattle.plural_runtime.specs.declared.first_byte.AndOrPolarityOperand.{AndOrPolarityOperand}
use Rattle.plural_runtime.specs.PackedRelations.{first_byte}
use Rattle.plural_runtime.specs.PackedTree.{is_large_item}

-- the operator of a polarity
abbrev pub operator_of : Polarity → Operator
operator_of Positive = Eq
operator_of Negative = NotEq

abbrev pub polarity_of : Operator → Polarity
polarity_of Eq = Positive
polarity_of NotEq = Negative

-- the operand of a tree
abbrev pub tree_operand_of : Operand → TreeOperand
tree_operand_of N = tree.N
tree_operand_of I = tree.I
tree_operand_of V = tree.V
tree_operand_of W = tree.W
tree_operand_of F = tree.F
tree_operand_of T = tree.T
tree_operand_of C = tree.C
tree_operand_of E = tree.E

abbrev pub packed_operand_of : TreeOperand → Operand
packed_operand_of tree.N = N
packed_operand_of tree.I = I
packed_operand_of tree.V = V
packed_operand_of tree.W = W
packed_operand_of tree.F = F
packed_operand_of tree.T = T
packed_operand_of tree.C = C
packed_operand_of tree.E = E

-- the two ends; those of a value are equal
abbrev pub ends : RangeOrValue → ℕ × ℕ
ends (Range start end) = (start, end)
ends (Value value) = (value, value)

-- the range of two ends; equal ends are a value
abbrev pub range_or_value : ℕ × ℕ → RangeOrValue
range_or_value range = if range.0 == range.1 then Value range.0 else Range range.0 range.1

-- the item of a tree
abbrev pub item_of : RangeOrValue → RangeListItem
item_of (Range start end) = items.Range (record { 0 = start }) (record { 0 = end })
item_of (Value value) = items.Value (record { 0 = value })

-- an item of a tree is taken if and only if its values fit 32 bits
abbrev pub ItemGives : RangeListItem → Result RangeOrValue ParseError → Type 0
ItemGives item (Ok range) = IsFalse (is_large_item item) × (item_of range ≡ item)
ItemGives item (Err fault) = IsTrue (is_large_item item) × (fault ≡ ValueTooLarge)

-- the byte of the three parts
abbrev pub byte_of : AndOrPolarityOperand → ℕ
byte_of parts = first_byte parts.and_or (operator_of parts.polarity) (tree_operand_of parts.operand)
