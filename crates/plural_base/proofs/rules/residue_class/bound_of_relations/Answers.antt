use Rattle.std.proofs.Common.{◌≡◌, ◌∷◌, ◌∙◌, ap, sym}
use Rattle.std.specs.Prelude.{flat_map, max}
use Rattle.plural_runtime.specs.Inner.RuleViews.{lent_relation}
use Rattle.plural_base.specs.ToldCategories.{ends_of_relation, first_above}
use Rattle.plural_base.proofs.integers.Bounds.{greater_is, one_list_more}
use Rattle.plural_base.proofs.rules.residue_class.bound_of_relations.Goals as goal

pub loop-item-preserved : goal.loop-item-preserved
loop-item-preserved c =
    let relation = lent_relation c.as_relation.result in
    let left = c.in-Some.ensures.steps ∙ ap (λ r. r ∷ c.next.new.self) (sym c.as_relation.ensures) in
    let next : c.max-bound.result ≡ max c.loop-item.bound c.bound_of_relation.result = c.max-bound.ensures ∙ greater_is _ _ in
    one_list_more c.loop-item.bound c.bound_of_relation.result c.max-bound.result (ends_of_relation relation)
    (flat_map ends_of_relation c.next.new.self) c.bound_of_relation.ensures next
    ∙ sym (ap (λ rest. max c.loop-item.bound (first_above (flat_map ends_of_relation rest))) left) ∙ c.loop-item.invariant
