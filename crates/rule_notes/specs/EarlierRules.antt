-- What is noted of a category's condition beside those of earlier categories (UTS 35 Part 3, Language
-- Plural Rules: the first category whose condition is true has the number).
--     HasFirstText rules text category      the first category whose condition prints as a text
--     AreAlikeCauses earlier rule causes      the first earlier category whose condition prints alike
--     IsTakenByEarlier earlier rule      the condition is true of some number that is looked at, and of each
--         such number an earlier one is true
use Rattle.std.specs.Prelude.{◌≡◌, ◌≢◌, ◌⊎◌, ℕ, List, [], ◌∷◌, Option, Some, None, IsTrue}
use Rattle.std.specs.List.{list_any}
use Rattle.plural_base.specs.declared.category.PluralCategory.{PluralCategory}
use Rattle.plural_operands.specs.Operands.{Operands}
use Rattle.plural_reference.specs.Serializer.{condition_text}
use Rattle.plural_reference.specs.Truth.{tree_truth}
use Rattle.rule_notes.specs.LookedAtNumbers.{IsLookedAt}
use Rattle.rule_notes.specs.declared.category_rule.CategoryRule.{CategoryRule}
use Rattle.rule_notes.specs.declared.cause.Cause.{Cause}
use Rattle.rule_notes.specs.declared.cause.Cause.TheVariants.{Alike}

-- ---- Conditions that print alike

abbrev pub HasFirstText : List CategoryRule → List ℕ → Option PluralCategory → Type 0
HasFirstText [] text category = category ≡ None
HasFirstText (first ∷ rules) text category =
    ((condition_text first.condition ≡ text) × (category ≡ Some first.category))
    ⊎ ((condition_text first.condition ≢ text) × HasFirstText rules text category)

abbrev pub alike_if : Option PluralCategory → List Cause
alike_if None = []
alike_if (Some category) = Alike category ∷ []

abbrev pub AreAlikeCauses : List CategoryRule → CategoryRule → List Cause → Type 0
AreAlikeCauses earlier rule causes =
    (category : Option PluralCategory) × HasFirstText earlier (condition_text rule.condition) category × (causes ≡ alike_if category)

-- ---- Numbers of earlier rules

-- the condition is true of the number
abbrev pub IsTrueOf : CategoryRule → Operands → Type 0
IsTrueOf rule number = IsTrue (tree_truth number rule.condition)

-- so is that of some earlier rule
abbrev pub IsTakenAt : List CategoryRule → Operands → Type 0
IsTakenAt earlier number = IsTrue (list_any (λ rule. tree_truth number rule.condition) earlier)

pub record IsTakenByEarlier (earlier : List CategoryRule) (rule : CategoryRule) : Type 0 where
  pub some : (number : Operands) × IsLookedAt number × IsTrueOf rule number
  pub all : (number : Operands) → IsLookedAt number → IsTrueOf rule number → IsTakenAt earlier number
