-- Packed relations are the same exactly if their numbers are.
use Rattle.std.proofs.Common.{◌≡◌, ℕ, List, [], ◌∷◌, refl, sym, ap, ◌∙◌}
use Rattle.std.specs.Prelude.{flat_map}
use Rattle.std.specs.Bool.{Decides}
use Rattle.std.proofs.lemmas.Slice.Eq.{bytes_eq-Decides}
use Rattle.plural_operands.specs.declared.operand.Operand.{Operand}
use Rattle.plural_operands.specs.declared.operand.Operand.TheVariants.{N, I, V, W, F, T, C, E}
use Rattle.plural_reference.specs.declared.ast.Operator.{Operator}
use Rattle.plural_reference.specs.declared.ast.Operator.TheVariants.{Eq, NotEq}
use Rattle.plural_runtime.specs.declared.kinds.AndOr.{AndOr}
use Rattle.plural_runtime.specs.declared.kinds.AndOr.TheVariants.{And, Or}
use Rattle.plural_runtime.specs.PackedRelations.{PackedRelation, and_or_bit, operator_bit, operand_number, relation_numbers}
use Rattle.plural_runtime.specs.PackedRelations.{is_same_relation}
use Rattle.plural_runtime.specs.Inner.RuleReading.{and_or_in, operator_in, operand_numbered, operand_or_n, ranges_in}
use Rattle.plural_runtime.specs.Inner.RuleViews.{lent_relation}
use Rattle.plural_runtime.specs.declared.first_byte.AndOrPolarityOperand.{AndOrPolarityOperand}
use Rattle.plural_runtime.specs.declared.relation.Relation.{Relation}
use Rattle.plural_runtime.specs.RuleKinds.{operator_of, tree_operand_of, polarity_of, packed_operand_of}
use Rattle.plural_runtime.proofs.bytes.KindsAgain.{packed_again, polarity_again}

-- the relation of numbers
abbrev pairs : List ℕ → List (ℕ × ℕ)
pairs (a ∷ b ∷ ns) = (a, b) ∷ pairs ns
pairs _ = []

-- the relation that is made of numbers; another one if they are too few
abbrev of_numbers : List ℕ → PackedRelation → PackedRelation
of_numbers (mark ∷ operator ∷ operand ∷ modulus ∷ ends) other = record {
  and_or = and_or_in mark;
  meaning = record {
    operand = operand_or_n (operand_numbered operand);
    modulus = modulus;
    operator = operator_in operator;
    ranges = pairs ends;
  };
}
of_numbers _ other = other

-- ranges come back from their ends
pairs_again : (ranges : List (ℕ × ℕ)) → pairs (flat_map (λ range. range.0 ∷ range.1 ∷ []) ranges) ≡ ranges
pairs_again [] = refl
pairs_again (range ∷ ranges) = ap (λ rs. range ∷ rs) (pairs_again ranges)

-- a mark comes back from its bit
mark_again : (mark : AndOr) → and_or_in (and_or_bit mark) ≡ mark
mark_again And = refl
mark_again Or = refl

-- an operator comes back from its bit
operator_again : (operator : Operator) → operator_in (operator_bit operator) ≡ operator
operator_again Eq = refl
operator_again NotEq = refl

-- an operand comes back from its number
operand_again : (operand : Operand) → operand_or_n (operand_numbered (operand_number operand)) ≡ operand
operand_again N = refl
operand_again I = refl
operand_again V = refl
operand_again W = refl
operand_again F = refl
operand_again T = refl
operand_again C = refl
operand_again E = refl

-- a relation comes back from its numbers
numbers_again : (relation other : PackedRelation) → of_numbers (relation_numbers relation) other ≡ relation
numbers_again relation other =
    rw (
      mark_again relation.and_or,
      operator_again relation.meaning.operator,
      operand_again relation.meaning.operand,
      pairs_again relation.meaning.ranges,
    ) refl

-- so relations are equal exactly if their numbers are
pub is_same_relation-Decides : (relation other : PackedRelation) → Decides (is_same_relation relation other) (relation ≡ other)
is_same_relation-Decides relation other =
    let same = bytes_eq-Decides (relation_numbers relation) (relation_numbers other) in (
      (λ h. sym (numbers_again relation other) ∙ ap (λ ns. of_numbers ns other) (same.0 h) ∙ numbers_again other other),
      (λ h. same.1 (ap relation_numbers h)),
    )

-- borrowed relations are the same if their parts are
pub lent_same : (a b : Relation) → a.kind ≡ b.kind → a.modulo ≡ b.modulo → ranges_in a.ranges.now ≡ ranges_in b.ranges.now
    → lent_relation a ≡ lent_relation b
lent_same a b kind modulo ranges =
    ap (λ (k : AndOrPolarityOperand). relation_of k a.modulo (ranges_in a.ranges.now)) kind
    ∙ ap (λ m. relation_of b.kind m (ranges_in a.ranges.now)) modulo
    ∙ ap (relation_of b.kind b.modulo) ranges
  where
    relation_of : AndOrPolarityOperand → ℕ → List (ℕ × ℕ) → PackedRelation
    relation_of kind modulo ranges = record {
      and_or = kind.and_or;
      meaning = record {
        operand = tree_operand_of kind.operand;
        modulus = modulo;
        operator = operator_of kind.polarity;
        ranges =
            ranges;
      };
    }

-- the mark, the polarity and the operand of a relation
kind_of : PackedRelation → AndOrPolarityOperand
kind_of relation = record {
  and_or = relation.and_or;
  polarity = polarity_of relation.meaning.operator;
  operand =
      packed_operand_of relation.meaning.operand;
}

-- so the kind of a borrowed relation is determined by its meaning
kind_again : (a : Relation) → record {
  and_or = a.kind.and_or;
  polarity = polarity_of (operator_of a.kind.polarity);
  operand =
      packed_operand_of (tree_operand_of a.kind.operand);
} ≡ a.kind
kind_again a = rw (polarity_again a.kind.polarity, packed_again a.kind.operand) refl

-- and their kinds are then
pub same_kinds : (a b : Relation) → lent_relation a ≡ lent_relation b → a.kind ≡ b.kind
unfolding kind_of
same_kinds a b h = sym (kind_again a) ∙ ap kind_of h ∙ kind_again b
