-- Not a definition of the subject: what rules tell of all numbers that show a fraction, for private
-- contracts.
use Rattle.std.specs.Prelude.{◌≡◌, ◌<◌, ◌==◌, ◌&&◌, ℕ, Bool, false, nat_lt, if◌then◌else◌, Option, Some, None}
use Rattle.std.specs.List.{list_all}
use Rattle.plural_operands.specs.declared.operand.Operand.{Operand}
use Rattle.plural_operands.specs.declared.operand.Operand.TheVariants.{N, I, V, W, F, T, C, E}
use Rattle.plural_reference.specs.Truth.{RelationMeaning}
use Rattle.plural_runtime.specs.PackedRelations.{PackedRelation}
use Rattle.plural_operands.specs.Operands.{Operands}
use Rattle.plural_runtime.specs.PackedTruth.{packed_truth}
use Rattle.plural_base.specs.declared.category.PluralCategory.{PluralCategory}
use Rattle.plural_base.specs.declared.rules.fractions.Fractions.{Fractions}
use Rattle.plural_base.specs.declared.rules.fractions.Fractions.TheVariants.{Shown, NotZero}
use Rattle.plural_base.specs.FiveRules.{FiveRules, first_category}
use Rattle.plural_base.specs.Inner.WholeNumbers.{IsTold, told_category}

-- a fraction digit is shown, and if the class is of fractions that aren't 0, this one isn't
pub record IsOfFractions (fractions : Fractions) (o : Operands) : Type 0 where
  pub shown : 0 < o.v
  pub not_zero : fractions ≡ NotZero → 0 < o.w

-- a fraction digit is shown, and in class 1 the fraction isn't 0
pub record IsInFractionClass (class : ℕ) (o : Operands) : Type 0 where
  pub places : 0 < o.v
  pub above : class ≡ 1 → 0 < o.w

-- what is told is the category of each number of the class
abbrev pub IsFractionCategory : FiveRules → Fractions → Option PluralCategory → Type 0
IsFractionCategory rules fractions told = (o : Operands) → IsOfFractions fractions o → IsTold (first_category (packed_truth o) rules) told

-- ... of both classes
abbrev pub AreFractionCategories : FiveRules → Option PluralCategory → Option PluralCategory → Type 0
AreFractionCategories rules shown not_zero = IsFractionCategory rules Shown shown × IsFractionCategory rules NotZero not_zero

-- which of the two classes a number is of that shows a fraction
abbrev pub FractionsAre : Operands → Option Fractions → Type 0
FractionsAre o None = o.v ≡ 0
FractionsAre o (Some Shown) = (0 < o.v) × (o.w ≡ 0)
FractionsAre o (Some NotZero) = (0 < o.v) × (0 < o.w)

-- ---- What is told

-- It is told of all numbers of a class whether a list holds an operand's value: of v, which is at
-- least 1, if no range ends above 0, and of n if the fraction isn't 0.
abbrev pub is_value_told : ℕ → Operand → RelationMeaning → Bool
is_value_told class N relation = class == 1
is_value_told class I relation = false
is_value_told class V relation = (relation.modulus == 0) && list_all (λ range. nat_lt range.1 1) relation.ranges
is_value_told class W relation = false
is_value_told class F relation = false
is_value_told class T relation = false
is_value_told class C relation = false
is_value_told class E relation = false

unfoldable pub is_told_of_fraction : ℕ → PackedRelation → Bool
is_told_of_fraction class relation = is_value_told class relation.meaning.operand relation.meaning

-- the place of a class
abbrev pub class_of : Fractions → ℕ
class_of Shown = 0
class_of NotZero = 1

-- the category that is told of a number's class, if it shows a fraction
abbrev pub fraction_category : FiveRules → Operands → Option PluralCategory
fraction_category rules o =
    if o.v == 0 then None
    else (if o.w == 0 then told_category (is_told_of_fraction 0) o rules else told_category (is_told_of_fraction 1) o rules)

-- each entry is the category that is told of the numbers of its class
pub record AreAllFractionsTold (rules : FiveRules) (shown not_zero : Option PluralCategory) : Type 0 where
  pub shown_is : (o : Operands) → IsOfFractions Shown o → shown ≡ told_category (is_told_of_fraction 0) o rules
  pub not_zero_is : (o : Operands) → IsOfFractions NotZero o → not_zero ≡ told_category (is_told_of_fraction 1) o rules
