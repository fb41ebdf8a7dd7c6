-- What the tests of ranges and relations decide.
use Rattle.std.proofs.Common.{◌≡◌, ℕ, ◌<◌, ◌≤◌, ◌%◌, ◌==◌, Bool, true, false, ◌&&◌, ◌||◌, List, [], ◌∷◌, map, Option, Some, None, nat_lt, refl, ap, sym, ◌∙◌, arith, inl, inr, ◌⊎◌}
use Rattle.std.proofs.Math.Nat.{mod-eq_of_lt}
use Rattle.std.proofs.lemmas.Bool.Decides.{nat_tests}
use Rattle.std.specs.List.{list_all, list_any}
use Rattle.std.specs.Prelude.{option_map}
use Rattle.plural_operands.specs.Operands.{Operands, operand_value}
use Rattle.plural_operands.specs.declared.operand.Operand.{Operand}
use Rattle.plural_operands.specs.declared.operand.Operand.TheVariants.{N, I, V, W, F, T, C, E}
use Rattle.plural_reference.specs.Truth.{ends_of, holds_by, range_holds, remainder, tree_relation_truth, tree_value, under}
use Rattle.plural_reference.specs.declared.ast.Expression.{Expression}
use Rattle.plural_reference.specs.declared.ast.Operator.{Operator}
use Rattle.plural_reference.specs.declared.ast.Operator.TheVariants.{Eq, NotEq}
use Rattle.plural_reference.specs.declared.ast.RangeListItem.{RangeListItem}
use Rattle.plural_reference.specs.declared.ast.RangeListItem.TheVariants as items
use Rattle.plural_reference.specs.declared.ast.Relation.{Relation}
use Rattle.plural_reference.specs.declared.ast.Value.{Value}
use Rattle.rule_notes.specs.ConditionCauses.{IsEmpty, IsUpsideDown}
use Rattle.rule_notes.specs.Inner.CauseLists.{is_empty, is_equal, is_out, is_over}

-- ---- Ranges

missed : (value start end : ℕ) → (value < start) → range_holds value (start, end) ≡ false
missed value start end below = grind (arith, nat_tests)

missed_down : (value start end : ℕ) → end < start → range_holds value (start, end) ≡ false
missed_down value start end down = grind (arith, nat_tests)

met_at_start : (start end : ℕ) → start ≤ end → range_holds start (start, end) ≡ true
met_at_start start end up = grind (arith, nat_tests)

pub down_holds : (start end : Value) → nat_lt end.0 start.0 ≡ true → IsUpsideDown (items.Range start end)
down_holds start end down value = let below : end.0 < start.0 = grind (arith, nat_tests) in missed_down value start.0 end.0 below

pub not_down : (start end : Value) → nat_lt end.0 start.0 ≡ false → ¬ (IsUpsideDown (items.Range start end))
not_down start end up never =
    let above : start.0 ≤ end.0 = grind (arith, nat_tests) in
    let held : range_holds start.0 (start.0, end.0) ≡ true = met_at_start start.0 end.0 above in
    let missed : range_holds start.0 (start.0, end.0) ≡ false = never start.0 in absurd cc

-- ---- The values of an expression

-- operand numbers at which an operand has a value
at_value : Operand → ℕ → Operands
at_value W k = record { i = k; v = k; w = k; f = k; t = k; c = k }
at_value _ k = record { i = k; v = k; w = 0; f = k; t = k; c = k }

value-at : (operand : Operand) (k : ℕ) → operand_value operand (at_value operand k) ≡ Some k
unfolding at_value
value-at N k = refl
value-at I k = refl
value-at V k = refl
value-at W k = refl
value-at F k = refl
value-at T k = refl
value-at C k = refl
value-at E k = refl

-- an expression with a modulus or none
abbrev of_operand : Operand → Option Value → Expression
of_operand operand modulus = record { operand = operand; modulus = modulus }

-- a number below the modulus is a value of the expression
reached : (operand : Operand) (modulus : Option Value) (k : ℕ) → is_over modulus k ≡ false
    → tree_value (at_value operand k) (of_operand operand modulus) ≡ Some k
reached operand None k over = rw (value-at operand k) refl
reached operand (Some m) k over =
    let below : k < m.0 = grind (arith, nat_tests) in
    let some : (m.0 == 0) ≡ false = grind (arith, nat_tests) in
    let kept : k % m.0 ≡ k = mod-eq_of_lt below in
    rw (some, value-at operand k, some, kept) refl

cases_zero : (m : ℕ) → ((m == 0) ≡ true) ⊎ ((m == 0) ≡ false)
cases_zero m = elim (m == 0) as (λ b. (b ≡ true) ⊎ (b ≡ false)) [ true ↦ inl refl | false ↦ inr refl ]

remainder_below : (m value : ℕ) (o : Option ℕ) → (m == 0) ≡ false → option_map (remainder m) o ≡ Some value → value < m
remainder_below m value None some is = absurd cc
remainder_below m value (Some x) some is =
    let kept : remainder m x ≡ x % m = rw some refl in
    let same : remainder m x ≡ value = cc in
    let above : 0 < m = grind (arith, nat_tests) in
    let less : x % m < m = grind arith in omega arith

-- a value of the expression is below its modulus
below_modulus : (number : Operands) (operand : Operand) (modulus : Option Value) (value k : ℕ)
    → tree_value number (of_operand operand modulus) ≡ Some value → is_over modulus k ≡ true → value < k
below_modulus number operand None value k is over = absurd cc
below_modulus number operand (Some m) value k is over =
    let most : m.0 ≤ k = grind (arith, nat_tests) in
    elim (cases_zero m.0) [
      | inl zero ↦ let none : tree_value number (of_operand operand (Some m)) ≡ None = rw zero refl in absurd cc
      | inr some ↦
          let found : tree_value number (of_operand operand (Some m)) ≡ option_map (remainder m.0) (operand_value operand number) = rw some refl in
          let less : value < m.0 = remainder_below m.0 value (operand_value operand number) some (sym found ∙ is) in omega arith
    ]

-- ---- Lists of values

cases_or : (a b : Bool) → (a || b) ≡ true → (a ≡ true) ⊎ (b ≡ true)
cases_or true b either = inl refl
cases_or false b either = inr either

cases_and : (a b : Bool) → (a && b) ≡ false → (a ≡ false) ⊎ (b ≡ false)
cases_and true b fails = inr fails
cases_and false b fails = inl refl

both_true : (a b : Bool) → (a && b) ≡ true → (a ≡ true) × (b ≡ true)
both_true true b both = (refl, both)
both_true false b both = absurd cc

neither : (a b : Bool) → (a || b) ≡ false → (a ≡ false) × (b ≡ false)
neither true b fails = absurd cc
neither false b fails = (refl, fails)

or_true : (a b : Bool) → b ≡ true → (a || b) ≡ true
or_true true b holds = refl
or_true false b holds = holds

misses : (number : Operands) (operand : Operand) (modulus : Option Value) (value : ℕ)
    → tree_value number (of_operand operand modulus) ≡ Some value → (item : RangeListItem)
    → is_out modulus item ≡ true → range_holds value (ends_of item) ≡ false
misses number operand modulus value is (items.Range start end) out =
    elim (cases_or (nat_lt end.0 start.0) (is_over modulus start.0) out) [
      | inl down ↦ down_holds start end down value
      | inr over ↦ missed value start.0 end.0 (below_modulus number operand modulus value start.0 is over)
    ]
misses number operand modulus value is (items.Value single) out =
    missed value single.0 single.0 (below_modulus number operand modulus value single.0 is out)

none_holds : (modulus : Option Value) (value : ℕ)
    → ((item : RangeListItem) → is_out modulus item ≡ true → range_holds value (ends_of item) ≡ false)
    → (list : List RangeListItem) → list_all (is_out modulus) list ≡ true → list_any (range_holds value) (map ends_of list) ≡ false
none_holds modulus value miss [] all = refl
none_holds modulus value miss (item ∷ list) all =
    let each = both_true (is_out modulus item) (list_all (is_out modulus) list) all in
    rw (miss item each.0) (none_holds modulus value miss list each.1)

-- an item that isn't out has its start as such a value
start_of : (modulus : Option Value) (item : RangeListItem) → is_out modulus item ≡ false
    → (is_over modulus (ends_of item).0 ≡ false) × (range_holds (ends_of item).0 (ends_of item) ≡ true)
start_of modulus (items.Range start end) kept =
    let each = neither (nat_lt end.0 start.0) (is_over modulus start.0) kept in
    let up : start.0 ≤ end.0 = grind (arith, nat_tests, each.0) in
    (each.1, met_at_start start.0 end.0 up)
start_of modulus (items.Value value) kept = (kept, met_at_start value.0 value.0 (omega arith))

-- a value of some item that is below the modulus
some_holds : (modulus : Option Value) (list : List RangeListItem) → list_all (is_out modulus) list ≡ false
    → (k : ℕ) × (is_over modulus k ≡ false) × (list_any (range_holds k) (map ends_of list) ≡ true)
some_holds modulus [] all = absurd cc
some_holds modulus (item ∷ list) all =
    elim (cases_and (is_out modulus item) (list_all (is_out modulus) list) all) [
      | inl kept ↦ let start = start_of modulus item kept in ((ends_of item).0, start.0, rw (start.1) refl)
      | inr later ↦
          let k = some_holds modulus list later in
          (k.0, k.1, or_true (range_holds k.0 (ends_of item)) (list_any (range_holds k.0) (map ends_of list)) k.2)
    ]

-- ---- Relations

equal_of : (operator : Operator) → is_equal operator ≡ true → operator ≡ Eq
equal_of Eq is = refl
equal_of NotEq is = absurd cc

never_at : (number : Operands) (relation : Relation) (o : Option ℕ) → tree_value number relation.expression ≡ o
    → relation.operator ≡ Eq → list_all (is_out relation.expression.modulus) relation.range_list.0 ≡ true
    → holds_by relation o ≡ false
never_at number relation None is equal all = refl
never_at number relation (Some value) is equal all =
    let none = none_holds relation.expression.modulus value
    (misses number relation.expression.operand relation.expression.modulus value is) relation.range_list.0 all in
    ap (λ (b : Bool). under relation.operator b) none ∙ ap (λ (o : Operator). under o false) equal

pub empty_holds : (relation : Relation) → is_empty relation ≡ true → IsEmpty relation
empty_holds relation empty =
    let each = both_true (is_equal relation.operator) (list_all (is_out relation.expression.modulus) relation.range_list.0) empty in
    let equal : relation.operator ≡ Eq = equal_of relation.operator each.0 in
    record { equal = equal; never = λ number. never_at number relation (tree_value number relation.expression) refl equal each.1 }

pub not_empty : (relation : Relation) → is_empty relation ≡ false → ¬ (IsEmpty relation)
not_empty relation some never =
    let equal : is_equal relation.operator ≡ true = ap is_equal never.equal in
    let kept : list_all (is_out relation.expression.modulus) relation.range_list.0 ≡ false = rw equal at some in
    let k = some_holds relation.expression.modulus relation.range_list.0 kept in
    let number = at_value relation.expression.operand k.0 in
    let value : tree_value number relation.expression ≡ Some k.0 = reached relation.expression.operand relation.expression.modulus k.0 k.1 in
    let held : tree_relation_truth number relation ≡ true =
    ap (holds_by relation) value ∙ ap (λ (b : Bool). under relation.operator b) k.2 ∙ ap (λ (o : Operator). under o true) never.equal in
    let false_there : tree_relation_truth number relation ≡ false = never.never number in absurd cc
