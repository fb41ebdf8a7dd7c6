-- Kinds that are turned over and back.
use Rattle.std.proofs.Common.{◌≡◌, refl}
use Rattle.plural_operands.specs.declared.operand.Operand.{Operand}
use Rattle.plural_operands.specs.declared.operand.Operand.TheVariants.{N, I, V, W, F, T, C, E}
use Rattle.plural_reference.specs.declared.ast.Operator.{Operator}
use Rattle.plural_reference.specs.declared.ast.Operator.TheVariants.{Eq, NotEq}
use Rattle.plural_runtime.specs.declared.kinds.AndOr.{AndOr}
use Rattle.plural_runtime.specs.declared.kinds.Operand.{Operand as PackedOperand}
use Rattle.plural_runtime.specs.declared.kinds.Operand.TheVariants as packed
use Rattle.plural_runtime.specs.declared.kinds.Polarity.{Polarity}
use Rattle.plural_runtime.specs.declared.kinds.Polarity.TheVariants.{Negative, Positive}
use Rattle.plural_runtime.specs.PackedRelations.{first_byte}
use Rattle.plural_runtime.specs.RuleKinds.{byte_of, operator_of, packed_operand_of, polarity_of, tree_operand_of}

-- an operator comes back from its polarity
operator_again : (operator : Operator) → operator_of (polarity_of operator) ≡ operator
operator_again Eq = refl
operator_again NotEq = refl

-- an operand of a tree comes back from the packed one
operand_again : (operand : Operand) → tree_operand_of (packed_operand_of operand) ≡ operand
operand_again N = refl
operand_again I = refl
operand_again V = refl
operand_again W = refl
operand_again F = refl
operand_again T = refl
operand_again C = refl
operand_again E = refl

-- a polarity comes back from its operator
pub polarity_again : (polarity : Polarity) → polarity_of (operator_of polarity) ≡ polarity
polarity_again Positive = refl
polarity_again Negative = refl

-- an operand comes back from that of the tree
pub packed_again : (operand : PackedOperand) → packed_operand_of (tree_operand_of operand) ≡ operand
packed_again packed.N = refl
packed_again packed.I = refl
packed_again packed.V = refl
packed_again packed.W = refl
packed_again packed.F = refl
packed_again packed.T = refl
packed_again packed.C = refl
packed_again packed.E = refl

-- the byte of a tree's kinds
pub byte_again : (and_or : AndOr) (operator : Operator) (operand : Operand)
    → byte_of (record { and_or = and_or; polarity = polarity_of operator; operand = packed_operand_of operand })
    ≡ first_byte and_or operator operand
byte_again and_or operator operand = rw (operator_again operator, operand_again operand) refl
