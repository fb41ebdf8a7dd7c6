use Rattle.std.proofs.Common.{◌≡◌, ◌<◌, ℕ, Bool, false, true}
use Rattle.plural_operands.specs.Operands.{Operands}
use Rattle.plural_base.specs.Inner.Masks.{has_bit, IsToldAt}
use Rattle.plural_base.specs.ToldCategories.{rule_or, truth_or}
use Rattle.plural_base.proofs.integers.Walk.{truth_from}
use Rattle.plural_base.proofs.rules.told.told_relations.Given as goal

-- For each number of each wanted class, by either guess some truth of the groups so far is as told,
-- and decides with the remaining relations.
abbrev pub invariant-loop-item : goal.invariant-loop-item
invariant-loop-item g l =
    (class : ℕ) (o : Operands) → class < 128 → has_bit l.wanted class ≡ true → g.C.NumberClasses.has l.classes class o
    → (b : Bool) × (c : Bool) × (d : Bool) × (e : Bool) × IsToldAt class b c l.walk.earlier × IsToldAt class d e l.walk.group
    × (truth_from (truth_or false (g.C.NumberClasses.is_told l.classes class) o) b d l.item-iterator
    ≡ rule_or false (g.C.NumberClasses.is_told l.classes class) o l.rule)
    × (truth_from (truth_or true (g.C.NumberClasses.is_told l.classes class) o) c e l.item-iterator
    ≡ rule_or true (g.C.NumberClasses.is_told l.classes class) o l.rule)
