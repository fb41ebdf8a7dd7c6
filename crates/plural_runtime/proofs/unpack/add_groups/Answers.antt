use Rattle.std.proofs.Common.{ap, sym, map, ◌∙◌, ◌∷◌, [], List}
use Rattle.std.proofs.lemmas.List.{map-append}
use Rattle.plural_reference.specs.declared.ast.AndCondition.{AndCondition}
use Rattle.plural_reference.specs.declared.ast.Relation.{Relation}
use Rattle.plural_runtime.specs.Inner.RuleViews.{done_before, lent_relation}
use Rattle.plural_runtime.proofs.truth.TreeGroups.{glued, glued-all}
use Rattle.plural_runtime.proofs.unpack.add_groups.Goals as goal

pub loop-item-init : goal.loop-item-init
loop-item-init c =
    let left = c.into_iter-item-iterator.result in
    let all = c.into_iter-item-iterator.ensures.into_iter_gives ∙ c.iter-item-items.ensures in
    ap (λ (done : List AndCondition). glued
    (map (λ (c : AndCondition). c.0) done) c.in_ok-group.group.items left) c.requires.none
    ∙ ap (λ group. glued [] group left) c.in_ok-group.ensures.items ∙ ap (glued [] []) all
    ∙ glued-all c.args.rule.now c.requires.some

pub loop-item-preserved : goal.loop-item-preserved
loop-item-preserved c =
    let relation = lent_relation c.as_relation.result in
    let others = c.next.new.self in
    let done : List (List Relation) = map (λ (c : AndCondition). c.0) c.loop-item.groups.items in
    let group = c.loop-item.group.items in
    let left = c.in-Some.ensures.steps ∙ ap (λ r. r ∷ others) (sym c.as_relation.ensures) in
    ap (λ d. glued d c.add_relation.new.group.items others) c.in_ok-add_relation.ensures.groups
    ∙ ap (λ g. glued (done_before relation.and_or done group) g others) c.in_ok-add_relation.ensures.group
    ∙ ap (glued done group) (sym left) ∙ c.loop-item.invariant

pub returns : goal.returns
returns c =
    let conditions = c.loop-item.groups.items in
    let group = c.loop-item.group.items in
    let last : List AndCondition = record { 0 = group } ∷ [] in
    ap (map (λ (c : AndCondition). c.0)) c.in_ok-push.ensures.items
    ∙ (map-append (λ (c : AndCondition). c.0) conditions last
    ∙ (sym (ap (glued (map (λ (c : AndCondition). c.0) conditions) group) c.in-None.ensures.steps.0) ∙ c.loop-item.invariant))
