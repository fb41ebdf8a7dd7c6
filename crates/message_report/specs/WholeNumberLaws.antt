-- When the whole numbers below the limit tell of all whole numbers.
--     ArePeriodic rules      each modulus on n or i divides 100, and without a modulus n and i are
--         compared with numbers below 9800 alone
--     WholeNumbersTellAll      under such rules, no further whole number has a category of which
--         less than two are named
use Rattle.std.specs.Prelude.{◌≡◌, ◌≢◌, ◌⊎◌, ◌<◌, ◌%◌, ℕ, List, [], ◌∷◌, Option, Some, None}
use Rattle.icu_plurals.specs.FiveRules.{FiveRules}
use Rattle.icu_plurals.specs.PackedRelations.{PackedRelation}
use Rattle.icu_plurals.specs.declared.PluralCategory.{PluralCategory}
use Rattle.icu_plurals.specs.declared.provider.rules.reference.ast.Operand.{Operand}
use Rattle.icu_plurals.specs.declared.provider.rules.reference.ast.Operand.TheVariants.{N, I, V, W, F, T, C, E}
use Rattle.number_categories.specs.WholeNumbers.{AreTwoLeast, HasWhole}

-- all ranges end below 9800
abbrev pub AreLow : List (ℕ × ℕ) → Type 0
AreLow [] = Unit {0}
AreLow (range ∷ ranges) = (range.1 < 9800) × AreLow ranges

-- the modulus divides 100, or there is none, and the ranges are low
abbrev pub IsPeriodicBy : ℕ → List (ℕ × ℕ) → Type 0
IsPeriodicBy modulus ranges = ((modulus ≢ 0) × (100 % modulus ≡ 0)) ⊎ ((modulus ≡ 0) × AreLow ranges)

-- only n and i differ between whole numbers
abbrev pub IsPeriodicOn : Operand → ℕ → List (ℕ × ℕ) → Type 0
IsPeriodicOn N modulus ranges = IsPeriodicBy modulus ranges
IsPeriodicOn I modulus ranges = IsPeriodicBy modulus ranges
IsPeriodicOn V modulus ranges = Unit {0}
IsPeriodicOn W modulus ranges = Unit {0}
IsPeriodicOn F modulus ranges = Unit {0}
IsPeriodicOn T modulus ranges = Unit {0}
IsPeriodicOn C modulus ranges = Unit {0}
IsPeriodicOn E modulus ranges = Unit {0}

-- each relation of a rule
abbrev pub IsPeriodic : List PackedRelation → Type 0
IsPeriodic [] = Unit {0}
IsPeriodic (relation ∷ relations) =
    IsPeriodicOn relation.meaning.operand relation.meaning.modulus relation.meaning.ranges × IsPeriodic relations

abbrev pub IsPeriodicIf : Option (List PackedRelation) → Type 0
IsPeriodicIf None = Unit {0}
IsPeriodicIf (Some rule) = IsPeriodic rule

pub record ArePeriodic (rules : FiveRules) : Type 0 where
  pub zero : IsPeriodicIf rules.zero
  pub one : IsPeriodicIf rules.one
  pub two : IsPeriodicIf rules.two
  pub few : IsPeriodicIf rules.few
  pub many : IsPeriodicIf rules.many

-- where a second number isn't named, any whole number that has the category, however large, is the
-- first one
abbrev pub WholeNumbersTellAll : Type 0
WholeNumbersTellAll =
    (rules : FiveRules) (category : PluralCategory) (first : Option ℕ) → ArePeriodic rules → AreTwoLeast rules category first None
    → (n : ℕ) → HasWhole rules category n → first ≡ Some n
