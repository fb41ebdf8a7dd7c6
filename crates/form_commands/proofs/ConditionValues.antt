-- The values of conditions at whole numbers.
use Rattle.std.proofs.Common.{◌≡◌, ℕ, ◌==◌, List, [], ◌∷◌, map, Bool, true, false, refl, sym, ap, ◌∙◌, arith}
use Rattle.std.specs.Prelude.{◌&&◌, ◌||◌, not, nat_lt, nat_le, ◌%◌, filter, if◌then◌else◌}
use Rattle.std.specs.List.{list_all}
use Rattle.std.proofs.Math.Nat.{zero-mod}
use Rattle.std.proofs.lemmas.Bool.Decides.{nat_tests}
use Rattle.std.proofs.lemmas.List.Folds.{list_all-append}
use Rattle.icu_plurals.specs.Operands.{of_whole}
use Rattle.icu_plurals.specs.Truth.{RelationMeaning, is_in_ranges, range_holds, relation_truth, remainder, some_group, under}
use Rattle.icu_plurals.specs.declared.provider.rules.reference.ast.Operand.{Operand}
use Rattle.icu_plurals.specs.declared.provider.rules.reference.ast.Operand.TheVariants.{N, I, V, W, F, T, C, E}
use Rattle.icu_plurals.specs.declared.provider.rules.reference.ast.Operator.{Operator}
use Rattle.icu_plurals.specs.declared.provider.rules.reference.ast.Operator.TheVariants.{Eq, NotEq}
use Rattle.icu_plurals.specs.PackedRelations.{PackedRelation, groups}
use Rattle.icu_plurals.specs.PackedTruth.{is_true_at, packed_truth}
use Rattle.form_commands.specs.CExpressions.{Comparison, above, at_least, at_most, atom_value, below, bracketed, comparison_value}
use Rattle.form_commands.specs.CExpressions.{compared, equal, unequal}
use Rattle.form_commands.specs.RuleConditions.{ConditionsAreRules, comparison, atoms_of, atoms_of_group, atoms_under}
use Rattle.form_commands.specs.RuleConditions.{conditions_of_groups, in_ranges, inside, is_whole_operand, is_possible, outside}

-- ---- A range

-- all that is said of a range holds inside it
inside_by : (v a b : ℕ) → (x y : Bool) → (a == b) ≡ x → (a == 0) ≡ y
    → (if x then (v == a) && true else (if y then nat_le v b && true else (nat_le a v && (nat_le v b && true))))
    ≡ (nat_le a v && nat_le v b)
inside_by v a b true y e f = grind (arith, nat_tests)
inside_by v a b false true e f = grind (arith, nat_tests)
inside_by v a b false false e f = grind (arith, nat_tests)

inside_at : (n modulus a b : ℕ) (x y : Bool) → (a == b) ≡ x → (a == 0) ≡ y
    → list_all (comparison_value n)
    (if x then comparison modulus equal a ∷ []
    else (if y then comparison modulus at_most b ∷ [] else comparison modulus at_least a ∷ comparison modulus at_most b ∷ []))
    ≡ range_holds (remainder modulus n) (a, b)
inside_at n modulus a b true y e f = inside_by (remainder modulus n) a b true y e f
inside_at n modulus a b false true e f = inside_by (remainder modulus n) a b false true e f
inside_at n modulus a b false false e f = inside_by (remainder modulus n) a b false false e f

inside_value : (n modulus : ℕ) (range : ℕ × ℕ)
    → list_all (comparison_value n) (inside modulus range) ≡ range_holds (remainder modulus n) range
inside_value n modulus range = inside_at n modulus range.0 range.1 (range.0 == range.1) (range.0 == 0) refl refl

-- some of what is said of its outside holds there
outside_by : (v a b : ℕ) → (x y : Bool) → (a == b) ≡ x → (a == 0) ≡ y
    → (if x then not (v == a) else (if y then nat_lt b v else ((nat_lt v a && true) || ((nat_lt b v && true) || false))))
    ≡ not (nat_le a v && nat_le v b)
outside_by v a b true y e f = grind (arith, nat_tests)
outside_by v a b false true e f = grind (arith, nat_tests)
outside_by v a b false false e f = grind (arith, nat_tests)

outside_at : (n modulus a b : ℕ) (x y : Bool) → (a == b) ≡ x → (a == 0) ≡ y
    → atom_value n
    (if x then compared (comparison modulus unequal a)
    else (if y then compared (comparison modulus above b)
    else bracketed ((comparison modulus below a ∷ []) ∷ (comparison modulus above b ∷ []) ∷ [])))
    ≡ not (range_holds (remainder modulus n) (a, b))
outside_at n modulus a b true y e f = outside_by (remainder modulus n) a b true y e f
outside_at n modulus a b false true e f = outside_by (remainder modulus n) a b false true e f
outside_at n modulus a b false false e f = outside_by (remainder modulus n) a b false false e f

outside_value : (n modulus : ℕ) (range : ℕ × ℕ)
    → atom_value n (outside modulus range) ≡ not (range_holds (remainder modulus n) range)
outside_value n modulus range = outside_at n modulus range.0 range.1 (range.0 == range.1) (range.0 == 0) refl refl

-- ---- Ranges

compared_all : (n : ℕ) (comparisons : List Comparison)
    → list_all (atom_value n) (map compared comparisons) ≡ list_all (comparison_value n) comparisons
compared_all n [] = refl
compared_all n (c ∷ cs) = ap (λ (b : Bool). comparison_value n c && b) (compared_all n cs)

some_inside : (n modulus : ℕ) (ranges : List (ℕ × ℕ))
    → some_group (comparison_value n) (map (inside modulus) ranges) ≡ is_in_ranges ranges (remainder modulus n)
some_inside n modulus [] = refl
some_inside n modulus (range ∷ ranges) = rw (inside_value n modulus range, some_inside n modulus ranges) refl

not_or : (a b : Bool) → (not a && not b) ≡ not (a || b)
not_or true b = refl
not_or false b = refl

all_outside : (n modulus : ℕ) (ranges : List (ℕ × ℕ))
    → list_all (atom_value n) (map (outside modulus) ranges) ≡ not (is_in_ranges ranges (remainder modulus n))
all_outside n modulus [] = refl
all_outside n modulus (range ∷ ranges) =
    rw (outside_value n modulus range, all_outside n modulus ranges)
    (not_or (range_holds (remainder modulus n) range) (is_in_ranges ranges (remainder modulus n)))

and_true : (a : Bool) → (a && true) ≡ a
and_true true = refl
and_true false = refl

or_false : (a : Bool) → (a || false) ≡ a
or_false true = refl
or_false false = refl

in_ranges_value : (n modulus : ℕ) (ranges : List (ℕ × ℕ))
    → list_all (atom_value n) (in_ranges modulus ranges) ≡ is_in_ranges ranges (remainder modulus n)
in_ranges_value n modulus [] = refl
in_ranges_value n modulus (range ∷ []) =
    compared_all n (inside modulus range) ∙ inside_value n modulus range ∙ sym (or_false (range_holds (remainder modulus n) range))
in_ranges_value n modulus (range ∷ other ∷ ranges) =
    and_true (some_group (comparison_value n) (map (inside modulus) (range ∷ other ∷ ranges)))
    ∙ some_inside n modulus (range ∷ other ∷ ranges)

-- ---- A relation

atoms_under_value : (n modulus : ℕ) (operator : Operator) (ranges : List (ℕ × ℕ))
    → list_all (atom_value n) (atoms_under operator modulus ranges) ≡ under operator (is_in_ranges ranges (remainder modulus n))
atoms_under_value n modulus Eq ranges = in_ranges_value n modulus ranges
atoms_under_value n modulus NotEq ranges = all_outside n modulus ranges

zero_by : (b : Bool) (modulus : ℕ) → (if b then 0 else (0 % modulus)) ≡ 0
zero_by true modulus = refl
zero_by false modulus = zero-mod modulus

zero_rem : (modulus : ℕ) → remainder modulus 0 ≡ 0
zero_rem modulus = zero_by (modulus == 0) modulus

of_others : (operator : Operator) (modulus : ℕ) (ranges : List (ℕ × ℕ))
    → under operator (is_in_ranges ranges (remainder modulus 0)) ≡ (under operator (is_in_ranges ranges 0) && true)
of_others operator modulus ranges = rw (zero_rem modulus) (sym (and_true (under operator (is_in_ranges ranges 0))))

abbrev meaning_by : Operand → ℕ → Operator → List (ℕ × ℕ) → RelationMeaning
meaning_by operand modulus operator ranges = record { operand = operand; modulus = modulus; operator = operator; ranges = ranges }

relation_value : (n : ℕ) (operand : Operand) (modulus : ℕ) (operator : Operator) (ranges : List (ℕ × ℕ))
    → relation_truth (of_whole n) (meaning_by operand modulus operator ranges)
    ≡ ((is_whole_operand operand || under operator (is_in_ranges ranges 0))
    && list_all (atom_value n) (if is_whole_operand operand then atoms_under operator modulus ranges else []))
relation_value n N modulus operator ranges = sym (atoms_under_value n modulus operator ranges)
relation_value n I modulus operator ranges = sym (atoms_under_value n modulus operator ranges)
relation_value n V modulus operator ranges = of_others operator modulus ranges
relation_value n W modulus operator ranges = of_others operator modulus ranges
relation_value n F modulus operator ranges = of_others operator modulus ranges
relation_value n T modulus operator ranges = of_others operator modulus ranges
relation_value n C modulus operator ranges = of_others operator modulus ranges
relation_value n E modulus operator ranges = of_others operator modulus ranges

packed_value : (n : ℕ) (r : PackedRelation) → is_true_at (of_whole n) r ≡ (is_possible r && list_all (atom_value n) (atoms_of r))
packed_value n r = relation_value n r.meaning.operand r.meaning.modulus r.meaning.operator r.meaning.ranges

-- ---- A group

and_false : (a : Bool) → (a && false) ≡ false
and_false true = refl
and_false false = refl

four : (p a q b : Bool) → ((p && a) && (q && b)) ≡ ((p && q) && (a && b))
four true true q b = refl
four true false q b = sym (and_false q)
four false a q b = refl

group_value : (n : ℕ) (group : List PackedRelation)
    → list_all (is_true_at (of_whole n)) group ≡ (list_all is_possible group && list_all (atom_value n) (atoms_of_group group))
group_value n [] = refl
group_value n (r ∷ group) =
    rw (packed_value n r, group_value n group, list_all-append (atom_value n) (atoms_of r) (atoms_of_group group))
    (four (is_possible r) (list_all (atom_value n) (atoms_of r)) (list_all is_possible group)
    (list_all (atom_value n) (atoms_of_group group)))

-- ---- Groups

-- a group that is left out is false
left_out : (n : ℕ) (group : List PackedRelation) (groups : List (List PackedRelation)) (b : Bool)
    → ((b && list_all (atom_value n) (atoms_of_group group)) || some_group (atom_value n) (conditions_of_groups groups))
    ≡ some_group (atom_value n)
    (map atoms_of_group (if b then group ∷ filter (list_all is_possible) groups else filter (list_all is_possible) groups))
left_out n group groups true = refl
left_out n group groups false = refl

groups_value : (n : ℕ) (groups : List (List PackedRelation))
    → some_group (is_true_at (of_whole n)) groups ≡ some_group (atom_value n) (conditions_of_groups groups)
groups_value n [] = refl
groups_value n (group ∷ groups) =
    rw (group_value n group, groups_value n groups) (left_out n group groups (list_all is_possible group))

pub condition_values : ConditionsAreRules
unfolding packed_truth
condition_values relations n = sym (groups_value n (groups relations))
