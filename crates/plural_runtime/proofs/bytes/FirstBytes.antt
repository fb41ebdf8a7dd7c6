-- The first byte of a relation, read again.
use Rattle.std.proofs.Common.{◌≡◌, ℕ, refl, sym, ap, ◌∙◌, Some}
use Rattle.plural_runtime.specs.declared.kinds.AndOr.{AndOr}
use Rattle.plural_runtime.specs.declared.kinds.Polarity.{Polarity}
use Rattle.plural_runtime.specs.declared.kinds.Operand.{Operand}
use Rattle.plural_runtime.specs.declared.first_byte.AndOrPolarityOperand.{AndOrPolarityOperand}
use Rattle.plural_runtime.specs.RuleKinds.{byte_of, operator_of, packed_operand_of, polarity_of, tree_operand_of}
use Rattle.plural_runtime.specs.Inner.RuleReading.{and_or_in, operand_in, operator_in}
use Rattle.plural_runtime.proofs.bytes.ItemBytes.{kind_again}
use Rattle.plural_runtime.proofs.bytes.KindsAgain.{packed_again, polarity_again}

-- what a byte spells is what it says
pub parts_found : (byte : ℕ) (parts : AndOrPolarityOperand) (and_or : AndOr) (polarity : Polarity) (operand : Operand)
    → byte ≡ byte_of parts → and_or ≡ and_or_in byte → operator_of polarity ≡ operator_in byte
    → Some (tree_operand_of operand) ≡ operand_in byte
    → record { and_or = and_or; polarity = polarity; operand = operand } ≡ parts
parts_found byte parts and_or polarity operand e m s o =
    let k = kind_again parts.and_or (operator_of parts.polarity) (tree_operand_of parts.operand) in
    let x : and_or ≡ parts.and_or = m ∙ ap and_or_in e ∙ k.mark in
    let y : polarity ≡ parts.polarity = sym (polarity_again polarity) ∙ ap polarity_of (s ∙ ap operator_in e ∙ k.sign)
    ∙ polarity_again parts.polarity in
    let t : Some (tree_operand_of operand) ≡ Some (tree_operand_of parts.operand) = o ∙ ap operand_in e ∙ k.is in
    let u : tree_operand_of operand ≡ tree_operand_of parts.operand = cc in
    let z : operand ≡ parts.operand = sym (packed_again operand) ∙ ap packed_operand_of u ∙ packed_again parts.operand in
    rw (x, y, z) refl
