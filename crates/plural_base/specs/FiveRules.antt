-- Five rules, one for each category but other, and the category that they choose (UTS 35 Part 3,
-- Language Plural Rules).
--     five zero one two few many      a value for each (`Five`, src/five.rt)
--     first_category test things      the first of zero, one, two, few, many whose value is present
--         and passes, else other
--     categories_of things      those whose value is present, in this order, then other
use Rattle.std.specs.Prelude.{List, [], ◌∷◌, ◌++◌, Bool, false, Option, Some, None, is_some, if◌then◌else◌, ℕ, flat_map}
use Rattle.plural_base.specs.declared.category.PluralCategory.{PluralCategory}
use Rattle.plural_base.specs.declared.category.PluralCategory.TheVariants.{Zero, One, Two, Few, Many, Other}
use Rattle.plural_base.specs.declared.five.Five.{Five}
use Rattle.plural_runtime.specs.PackedRelations.{PackedRelation}
use Rattle.plural_base.specs.declared.rules.data.PluralRulesData.{PluralRulesData}
use Rattle.plural_operands.specs.declared.operand.Operand.{Operand}
use Rattle.plural_operands.specs.declared.operand.Operand.TheVariants.{N, I, V, W, F, T, C, E}

-- the five by name
abbrev pub five : {A : Type 0} → A → A → A → A → A → Five A
five zero one two few many = record { zero = zero; one = one; two = two; few = few; many = many }

-- both are absent, or both are present and the relation holds of them
abbrev pub Paired : {A B : Type 0} → (A → B → Type 0) → Option A → Option B → Type 0
Paired Related None None = Unit {0}
Paired Related (Some x) (Some y) = Related x y
Paired Related _ _ = ⊥

-- each of five is `Paired`
pub record ArePaired {A B : Type 0} (Related : A → B → Type 0) (xs : Five (Option A)) (ys : Five (Option B)) : Type 0 where
  pub zero : Paired Related xs.zero ys.zero
  pub one : Paired Related xs.one ys.one
  pub two : Paired Related xs.two ys.two
  pub few : Paired Related xs.few ys.few
  pub many : Paired Related xs.many ys.many

-- a rule for each category that has one
abbrev pub FiveRules : Type 0
FiveRules = Five (Option (List PackedRelation))

-- it is present and passes
abbrev pub passes : {A : Type 0} → (A → Bool) → Option A → Bool
passes test None = false
passes test (Some x) = test x

-- the first category whose value is present and passes, else other
abbrev pub first_category : {A : Type 0} → (A → Bool) → Five (Option A) → PluralCategory
first_category test things =
    if passes test things.zero then Zero
    else (if passes test things.one then One
    else (if passes test things.two then Two
    else (if passes test things.few then Few
    else (if passes test things.many then Many else Other))))

-- the category, if it is present
abbrev pub listed : PluralCategory → Bool → List PluralCategory
listed category is_there = if is_there then category ∷ [] else []

-- the categories whose value is present, from zero to many, then other
abbrev pub categories_of : {A : Type 0} → Five (Option A) → List PluralCategory
categories_of things =
    listed Zero (is_some things.zero) ++ listed One (is_some things.one) ++ listed Two (is_some things.two)
    ++ listed Few (is_some things.few) ++ listed Many (is_some things.many) ++ Other ∷ []

-- ---- What the data of five rules is seen as

abbrev pub rules_of : PluralRulesData → FiveRules
rules_of d = record { zero = d.zero; one = d.one; two = d.two; few = d.few; many = d.many }

-- ---- The moduli that the bound of exactness depends on: those on n and i in all five rules. A
-- modulus 0, no modulus, is listed.

-- the modulus, if the operand is n or i
abbrev pub modulus_on : Operand → ℕ → List ℕ
modulus_on N modulus = modulus ∷ []
modulus_on I modulus = modulus ∷ []
modulus_on V modulus = []
modulus_on W modulus = []
modulus_on F modulus = []
modulus_on T modulus = []
modulus_on C modulus = []
modulus_on E modulus = []

-- the modulus of a relation, if it counts
abbrev pub moduli_of_relation : PackedRelation → List ℕ
moduli_of_relation relation = modulus_on relation.meaning.operand relation.meaning.modulus

-- the moduli of the relations of a rule, if present
abbrev pub moduli_of_rule : Option (List PackedRelation) → List ℕ
moduli_of_rule None = []
moduli_of_rule (Some relations) = flat_map moduli_of_relation relations

-- the moduli of all five rules
abbrev pub moduli_of : FiveRules → List ℕ
moduli_of rules =
    moduli_of_rule rules.zero ++ moduli_of_rule rules.one ++ moduli_of_rule rules.two ++ moduli_of_rule rules.few
    ++ moduli_of_rule rules.many
