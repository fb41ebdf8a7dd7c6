-- The condition of a rule at whole numbers, as an expression of C. Of a whole number n and i are
-- the number, and the other operands are 0: so a relation of these is left out if it is true of 0,
-- and else its group is.
--     rule_condition_of relations      the condition of the relations of a rule
use Rattle.std.specs.Prelude.{◌≡◌, ℕ, ◌==◌, List, [], ◌∷◌, map, flat_map, filter, Bool, true, false, ◌||◌, if◌then◌else◌}
use Rattle.std.specs.List.{list_all}
use Rattle.icu_plurals.specs.Operands.{of_whole}
use Rattle.icu_plurals.specs.Truth.{is_in_ranges, under}
use Rattle.icu_plurals.specs.declared.provider.rules.reference.ast.Operand.{Operand}
use Rattle.icu_plurals.specs.declared.provider.rules.reference.ast.Operand.TheVariants.{N, I, V, W, F, T, C, E}
use Rattle.icu_plurals.specs.declared.provider.rules.reference.ast.Operator.{Operator}
use Rattle.icu_plurals.specs.declared.provider.rules.reference.ast.Operator.TheVariants.{Eq, NotEq}
use Rattle.icu_plurals.specs.PackedRelations.{PackedRelation, groups}
use Rattle.icu_plurals.specs.PackedTruth.{packed_truth}
use Rattle.form_commands.specs.CExpressions.{Atom, Comparison, Sign, above, at_least, at_most, below, bracketed, compared, condition_value, equal, unequal}

-- ---- A range

abbrev pub comparison : ℕ → Sign → ℕ → Comparison
comparison modulus sign number = record { modulus = modulus; sign = sign; number = number }

-- that the number is in the range: all of these hold
abbrev pub inside : ℕ → ℕ × ℕ → List Comparison
inside modulus range =
    if range.0 == range.1 then comparison modulus equal range.0 ∷ []
    else (if range.0 == 0 then comparison modulus at_most range.1 ∷ []
    else comparison modulus at_least range.0 ∷ comparison modulus at_most range.1 ∷ [])

-- that it isn't
abbrev pub outside : ℕ → ℕ × ℕ → Atom
outside modulus range =
    if range.0 == range.1 then compared (comparison modulus unequal range.0)
    else (if range.0 == 0 then compared (comparison modulus above range.1)
    else bracketed ((comparison modulus below range.0 ∷ []) ∷ (comparison modulus above range.1 ∷ []) ∷ []))

-- ---- A relation

-- that the number is in one of the ranges: of a single range no brackets are needed
abbrev pub in_ranges : ℕ → List (ℕ × ℕ) → List Atom
in_ranges modulus (range ∷ []) = map compared (inside modulus range)
in_ranges modulus ranges = bracketed (map (inside modulus) ranges) ∷ []

-- of the number: `=` holds in the ranges, `!=` outside all
abbrev pub atoms_under : Operator → ℕ → List (ℕ × ℕ) → List Atom
atoms_under Eq modulus ranges = in_ranges modulus ranges
atoms_under NotEq modulus ranges = map (outside modulus) ranges

-- of a whole number the operand is the number; the others are 0
abbrev pub is_whole_operand : Operand → Bool
is_whole_operand N = true
is_whole_operand I = true
is_whole_operand V = false
is_whole_operand W = false
is_whole_operand F = false
is_whole_operand T = false
is_whole_operand C = false
is_whole_operand E = false

-- it says nothing of whole numbers if it isn't of the number
abbrev pub atoms_of : PackedRelation → List Atom
atoms_of relation =
    if is_whole_operand relation.meaning.operand then atoms_under relation.meaning.operator relation.meaning.modulus relation.meaning.ranges
    else []

-- it is of the number, or true of 0; else no whole number has it
abbrev pub is_possible : PackedRelation → Bool
is_possible relation =
    is_whole_operand relation.meaning.operand || under relation.meaning.operator (is_in_ranges relation.meaning.ranges 0)

-- ---- A rule

abbrev pub atoms_of_group : List PackedRelation → List Atom
atoms_of_group group = flat_map atoms_of group

abbrev pub conditions_of_groups : List (List PackedRelation) → List (List Atom)
conditions_of_groups groups = map atoms_of_group (filter (list_all is_possible) groups)

abbrev pub rule_condition_of : List PackedRelation → List (List Atom)
rule_condition_of relations = conditions_of_groups (groups relations)

-- ---- What it means

-- of a whole number it has the value that the rule has
abbrev pub ConditionsAreRules : Type 0
ConditionsAreRules = (relations : List PackedRelation) (n : ℕ) → condition_value n (rule_condition_of relations) ≡ packed_truth (of_whole n) relations
