use Rattle.std.proofs.Common.{◌≡◌, List, ◌∷◌, ap, codes, string_bytes, sym, subst, ◌∙◌}
use Rattle.std.proofs.lemmas.Result.{IfOk-weaker}
use Rattle.icu_plurals.specs.PackedRelations.{PackedRelation, groups}
use Rattle.icu_plurals.specs.RuleViews.{lent_relation}
use Rattle.icu_plurals.specs.declared.provider.rules.runtime.ast.AndOr.{AndOr}
use Rattle.form_commands.specs.CExpressions.{or_text}
use Rattle.form_commands.specs.Inner.ConditionSteps.{AreCut, begun_before, groups_ended_before, group_texts}
use Rattle.form_commands.proofs.JoinLemmas.{IsTaken, all_taken, none_taken, one_more_taken}
use Rattle.form_commands.proofs.c_condition.condition_text.Goals as goal

pub loop-item-init : goal.loop-item-init
loop-item-init c =
    subst (λ (left : List PackedRelation). IsTaken c.args.rule.now left c.new-ended.result c.new-current.result)
    (sym (c.into_iter-item-iterator.ensures.into_iter_gives ∙ c.iter-item-items.ensures))
    (none_taken c.args.rule.now c.new-ended.result c.new-current.result (c.new-ended.ensures (codes " || ")) c.new-current.ensures)

pub loop-item-preserved : goal.loop-item-preserved
loop-item-preserved c =
    let relation = lent_relation c.as_relation-relation.result in
    let others = c.next.new.self in
    let left = c.in-Some.ensures.steps ∙ ap (λ r. r ∷ others) (sym c.as_relation-relation.ensures) in
    one_more_taken c.args.rule.now c.loop-item.item-iterator others relation c.loop-item.ended c.cut_before.new.ended c.loop-item.current
    c.cut_before.new.current c.add.new.self left c.loop-item.invariant
    (subst (λ (mark : AndOr). (done : List (List PackedRelation)) (group : List PackedRelation)
    → AreCut done group c.loop-item.ended c.loop-item.current
    → AreCut (groups_ended_before mark done group) (begun_before mark group) c.cut_before.new.ended c.cut_before.new.current) c.and_or.ensures
    c.in_ok-cut_before.ensures)
    c.in_ok-add.ensures

pub returns : goal.returns
returns c =
    let joined = all_taken c.args.rule.now c.loop-item.item-iterator c.loop-item.ended c.end.new.ended c.loop-item.current
    c.in-None.ensures.steps.0 c.loop-item.invariant c.in_ok-end.ensures in
    let pieces = group_texts (groups c.args.rule.now) in
    IfOk-weaker c.from_str.result (λ s. string_bytes s ≡ c.or_text.result.now) (λ s. string_bytes s ≡ or_text pieces)
    (λ s wrote. wrote ∙ c.or_text.ensures pieces joined) c.from_str.ensures.ok
