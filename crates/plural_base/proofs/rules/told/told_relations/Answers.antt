use Rattle.std.proofs.Common.{◌≡◌, ◌∷◌, ◌∙◌, List, sym, ap, Bool, true, false}
use Rattle.plural_operands.specs.Operands.{Operands}
use Rattle.plural_runtime.specs.PackedRelations.{PackedRelation}
use Rattle.plural_runtime.specs.Inner.RuleViews.{lent_relation}
use Rattle.plural_base.specs.Inner.WholeNumbers.{earlier_after, group_after}
use Rattle.plural_base.specs.ToldCategories.{rule_or, truth_or}
use Rattle.plural_base.proofs.integers.Told.{told_as}
use Rattle.plural_base.proofs.integers.Walk.{truth_from, truth_from-is}
use Rattle.plural_base.proofs.rules.told.told_relations.Goals as goal

-- the walk from the first relation on
whole : (guess : Bool) (told : PackedRelation → Bool) (o : Operands) (relations : List PackedRelation)
    → truth_from (truth_or guess told o) false true relations ≡ rule_or guess told o relations
unfolding rule_or
whole guess told o relations = truth_from-is (truth_or guess told o) relations

pub loop-item-init : goal.loop-item-init
loop-item-init g c = λ class o h wanted has.
    let told = g.C.NumberClasses.is_told c.args.classes class in
    let all = c.into_iter-item-iterator.ensures.into_iter_gives ∙ c.iter-item-items.ensures in (
      false,
      false,
      true,
      true,
      c.told_alike.ensures class h,
      c.told_alike-2.ensures class h,
      ap (truth_from (truth_or false told o) false true) all ∙ whole false told o c.args.rule.now,
      ap (truth_from (truth_or true told o) false true) all ∙ whole true told o c.args.rule.now,
    )

pub loop-item-preserved : goal.loop-item-preserved
loop-item-preserved g c = λ class o h wanted has.
    let told = g.C.NumberClasses.is_told c.args.classes class in
    let before = c.loop-item.invariant class o h wanted has in
    let relation = lent_relation c.as_relation.result in
    let left = c.in-Some.ensures.steps ∙ ap (λ r. r ∷ c.next.new.self) (sym c.as_relation.ensures) in (
      earlier_after relation.and_or before.0 before.2,
      earlier_after relation.and_or before.1 before.3,
      group_after relation.and_or before.2 (truth_or false told o relation),
      group_after relation.and_or before.3 (truth_or true told o relation),
      c.walk_on-walk.ensures.earlier class before.0 before.1 before.2 before.3 before.4 before.5,
      c.walk_on-walk.ensures.group class o before.2 before.3 h wanted has before.5,
      sym (ap (truth_from (truth_or false told o) before.0 before.2) left) ∙ before.6,
      sym (ap (truth_from (truth_or true told o) before.1 before.3) left) ∙ before.7,
    )

pub returns : goal.returns
returns g c = λ class o h wanted has.
    let told = g.C.NumberClasses.is_told c.args.classes class in
    let before = c.loop-item.invariant class o h wanted has in
    let none = c.in-None.ensures.steps.0 in
    told_as class _ _ _ _ c.either.result
    (sym (ap (truth_from (truth_or false told o) before.0 before.2) none) ∙ before.6)
    (sym (ap (truth_from (truth_or true told o) before.1 before.3) none) ∙ before.7)
    (c.either.ensures class before.0 before.1 before.2 before.3 before.4 before.5)
