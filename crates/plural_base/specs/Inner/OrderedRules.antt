-- Not a definition of the subject: rules whose ranges are in order, for views and private contracts.
use Rattle.std.specs.Prelude.{◌≡◌, ◌&&◌, ℕ, List, map, Bool}
use Rattle.std.specs.List.Sorted.{IsNonDecreasingBy}
use Rattle.plural_runtime.specs.declared.kinds.AndOr.{AndOr}
use Rattle.plural_runtime.specs.declared.kinds.AndOr.TheVariants.{And, Or}
use Rattle.plural_base.specs.FiveRules.{FiveRules, first_category}
use Rattle.plural_operands.specs.Operands.{Operands}
use Rattle.plural_runtime.specs.PackedRelations.{PackedRelation}
use Rattle.plural_runtime.specs.PackedTruth.{is_true_at, packed_truth}
use Rattle.plural_reference.specs.Truth.{is_in_ranges}

-- neither the first nor the second ends go down
pub record AreOrdered (ranges : List (ℕ × ℕ)) : Type 0 where
  pub starts : IsNonDecreasingBy (λ (range : ℕ × ℕ). range.0) ranges
  pub ends : IsNonDecreasingBy (λ (range : ℕ × ℕ). range.1) ranges

-- both lists hold the same values
abbrev pub HoldSame : List (ℕ × ℕ) → List (ℕ × ℕ) → Type 0
HoldSame ranges others = (value : ℕ) → is_in_ranges ranges value ≡ is_in_ranges others value

-- what counts of a relation at six operand numbers: how it is joined, and whether it is true
abbrev pub told_at : Operands → PackedRelation → AndOr × Bool
told_at number relation = (relation.and_or, is_true_at number relation)

-- both relations are joined in the same way, and true of the same operands
abbrev pub IsLike : PackedRelation → PackedRelation → Type 0
IsLike relation other = (number : Operands) → told_at number relation ≡ told_at number other

-- so are all of two lists, one after the other
abbrev pub AreLike : List PackedRelation → List PackedRelation → Type 0
AreLike relations others = (number : Operands) → map (told_at number) relations ≡ map (told_at number) others

-- whether all of a group are true, with one relation more: Or begins a group
abbrev pub and_after : AndOr → Bool → Bool → Bool
and_after And so_far is_true = so_far && is_true
and_after Or so_far is_true = is_true

-- the five rules choose the same category for all operands
abbrev pub ChooseSame : FiveRules → FiveRules → Type 0
ChooseSame rules others = (number : Operands) → first_category (packed_truth number) rules ≡ first_category (packed_truth number) others
