-- Of which remainders by 100 a table of rules has the category: it is told of each relation by
-- itself whether it has one truth for all such numbers, and the category has to follow from that.
--     is_told bound residue relation      it is told of all numbers from the bound on that leave
--         the residue by 100 whether the relation is true
--     category_or guess told number rules      the category that the rules choose for a number if
--         each relation that isn't told is taken to be as guessed
--     IsCategoryTold told number rules      they choose the same one by both guesses
--     ends_of_rules rules      the ends of the ranges with which n or i is compared without a modulus
use Rattle.std.specs.Prelude.{◌≡◌, ◌≢◌, ◌↔◌, ℕ, ◌+◌, ◌%◌, ◌==◌, ◌&&◌, ◌||◌, ◌≤◌, Bool, true, false, not, nat_lt, max, if◌then◌else◌}
use Rattle.std.specs.Prelude.{List, [], ◌∷◌, ◌++◌, map, flat_map, slice_index, Option, Some, None}
use Rattle.std.specs.List.{list_all}
use Rattle.plural_operands.specs.declared.operand.Operand.{Operand}
use Rattle.plural_operands.specs.declared.operand.Operand.TheVariants.{N, I, V, W, F, T, C, E}
use Rattle.plural_operands.specs.Operands.{Operands, of_whole}
use Rattle.plural_reference.specs.Truth.{some_group}
use Rattle.plural_runtime.specs.PackedRelations.{PackedRelation, groups}
use Rattle.plural_runtime.specs.PackedTruth.{is_true_at}
use Rattle.plural_base.specs.declared.category.PluralCategory.{PluralCategory}
use Rattle.plural_base.specs.CategoryTables.{table_bound}
use Rattle.plural_base.specs.FiveRules.{FiveRules, first_category}

-- ---- One relation

-- the operand is the whole number itself; the others are 0
abbrev pub is_of_number : Operand → Bool
is_of_number N = true
is_of_number I = true
is_of_number V = false
is_of_number W = false
is_of_number F = false
is_of_number T = false
is_of_number C = false
is_of_number E = false

-- a modulus that divides 100: what it leaves of a number follows from the number's remainder by 100
abbrev pub divides_100 : ℕ → Bool
divides_100 modulus = not (modulus == 0) && (100 % modulus == 0)

-- A range holds nothing that a modulus leaves of such a number. Without a modulus it ends below the
-- bound; by a multiple of 100 it is a single value, which leaves another residue.
abbrev pub is_outside : ℕ → ℕ → ℕ → ℕ × ℕ → Bool
is_outside bound residue modulus range =
    if modulus == 0 then nat_lt range.1 bound
    else ((modulus % 100 == 0) && ((range.0 == range.1) && not (range.0 % 100 == residue)))

-- It is told of a relation if its operand is always 0, its modulus divides 100, or each of its
-- ranges is outside.
unfoldable pub is_told : ℕ → ℕ → PackedRelation → Bool
is_told bound residue relation =
    let meaning = relation.meaning in
    not (is_of_number meaning.operand) || (divides_100 meaning.modulus || list_all (is_outside bound residue meaning.modulus) meaning.ranges)

-- ---- Rules

-- the truth of a relation where it is told, else a guess
abbrev pub truth_or : Bool → (PackedRelation → Bool) → Operands → PackedRelation → Bool
truth_or guess told number relation = if told relation then is_true_at number relation else guess

-- all relations of some group are true so
unfoldable pub rule_or : Bool → (PackedRelation → Bool) → Operands → List PackedRelation → Bool
rule_or guess told number relations = some_group (truth_or guess told number) (groups relations)

-- the first category whose rule is present and true so, else other
abbrev pub category_or : Bool → (PackedRelation → Bool) → Operands → FiveRules → PluralCategory
category_or guess told number rules = first_category (rule_or guess told number) rules

-- the category is told: it is the same whether all relations that aren't told are false or true
abbrev pub IsCategoryTold : (PackedRelation → Bool) → Operands → FiveRules → Type 0
IsCategoryTold told number rules = category_or false told number rules ≡ category_or true told number rules

-- ---- The bound

-- the ends of a relation's ranges, if it compares n or i without a modulus
abbrev pub ends_of_relation : PackedRelation → List ℕ
ends_of_relation relation =
    if is_of_number relation.meaning.operand && (relation.meaning.modulus == 0) then map (λ range. range.1) relation.meaning.ranges else []

-- those of a rule, if present
abbrev pub ends_of_rule : Option (List PackedRelation) → List ℕ
ends_of_rule None = []
ends_of_rule (Some relations) = flat_map ends_of_relation relations

-- those of all five rules
abbrev pub ends_of_rules : FiveRules → List ℕ
ends_of_rules rules =
    ends_of_rule rules.zero ++ ends_of_rule rules.one ++ ends_of_rule rules.two ++ ends_of_rule rules.few ++ ends_of_rule rules.many

-- one more than the greatest of some numbers, and 0 of none
abbrev pub first_above : List ℕ → ℕ
first_above [] = 0
first_above (n ∷ ns) = max (n + 1) (first_above ns)

-- ---- The table

-- The table of rules begins with one more than the greatest of these ends. It has the category of a
-- remainder, and not 6, if and only if that category is told.
pub record TellsAll (rules : FiveRules) (bytes : List ℕ) : Type 0 where
  pub bound : table_bound bytes ≡ first_above (ends_of_rules rules)
  pub told : (n : ℕ) → table_bound bytes ≤ n
      → (slice_index bytes (136 + n % 100) ≢ 6) ↔ IsCategoryTold (is_told (table_bound bytes) (n % 100)) (of_whole n) rules
