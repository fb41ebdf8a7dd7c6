-- The choice of a category by the kept operands of a number: within the bound it is exact, and no
-- wider bound on moduli would do.
use Rattle.std.specs.Prelude.{◌≡◌, ℕ, ◌*◌, ◌%◌, ◌^◌, ◌<◌, List, [], ◌∷◌, Option, Some, None, Ok}
use Rattle.std.specs.Int.{◌∣◌}
use Rattle.fixed_decimal.specs.Places.{Places, IsWritten}
use Rattle.plural_reference.specs.declared.ast.Condition.{Condition}
use Rattle.plural_reference.specs.declared.ast.Relation.{Relation}
use Rattle.plural_operands.specs.declared.operand.Operand.TheVariants.{I}
use Rattle.plural_reference.specs.declared.ast.Operator.TheVariants.{Eq}
use Rattle.plural_reference.specs.declared.ast.RangeListItem.TheVariants as items
use Rattle.plural_operands.specs.Operands.{AreKept, AreExact, Operands}
use Rattle.plural_reference.specs.ExactnessLaws.{IsTwice}
use Rattle.plural_reference.specs.Exactness.{exact_truth}
use Rattle.plural_runtime.specs.PackedRelations.{PackedRelation}
use Rattle.plural_runtime.specs.PackedTree.{packed, condition_of_groups, packing}
use Rattle.plural_runtime.specs.PackedTruth.{packed_truth}
use Rattle.plural_base.specs.declared.category.PluralCategory.{PluralCategory}
use Rattle.plural_base.specs.declared.category.PluralCategory.TheVariants.{One, Other}
use Rattle.plural_base.specs.DecimalChoice.{IsExactChoice, IsKeptChoice}
use Rattle.plural_base.specs.declared.five.Five.{Five}
use Rattle.plural_base.specs.FiveRules.{FiveRules, five, first_category}

-- ---- Within the bound

-- the category that the kept operands of a number choose is the one that the exact number has
abbrev pub KeptChoiceIsExact : Type 0
KeptChoiceIsExact =
    (rules : FiveRules) (x : Places) (exponent : ℕ) (category : PluralCategory)
    → IsWritten x → IsKeptChoice rules x exponent category → IsExactChoice rules x exponent category

-- ---- The bound is the widest

-- a value for one, and none for the others
abbrev pub only_one : {A : Type 0} → A → Five (Option A)
only_one thing = five None (Some thing) None None None

-- the relation `i % m = r`
abbrev pub leaves : ℕ → ℕ → Relation
leaves m r = record {
  expression = record { operand = I; modulus = Some (record { 0 = m }) };
  operator = Eq;
  range_list = record { 0 = items.Value (record { 0 = r }) ∷ [] };
}

-- the condition of a single relation
abbrev pub alone : Relation → Condition
alone relation = condition_of_groups ((relation ∷ []) ∷ [])

-- the condition packs to the rule; as the only rule, that of one, the condition chooses one for the
-- exact number, and the packed rule other for the kept operands
pub record TellsApart (condition : Condition) (rule : List PackedRelation) (kept exact : Operands) : Type 0 where
  pub packs : packing condition ≡ Ok rule
  pub for_exact : first_category (exact_truth exact) (only_one condition) ≡ One
  pub for_kept : first_category (packed_truth kept) (only_one rule) ≡ Other

-- Each modulus m up to 4294967295 that doesn't divide 10 ^ 18 is in rules that tell the exact
-- number 2 * 10 ^ 18 from what is kept of it: those whose only rule, that of one, is `i % m = r`,
-- where r is 2 * 10 ^ 18 mod m.
abbrev pub BoundIsWidestForChoice : Type 0
BoundIsWidestForChoice =
    (m : ℕ) (x : Places) (kept exact : Operands) → 0 < m → m < 2 ^ 32 → ¬ (m ∣ 10 ^ 18)
    → IsTwice x → AreKept x 0 kept → AreExact x 0 exact
    → let condition = alone (leaves m (2 * 10 ^ 18 % m)) in
    TellsApart condition (packed condition) kept exact
