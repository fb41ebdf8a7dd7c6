use Rattle.std.proofs.Common.{◌≡◌, ◌<◌, ◌∙◌, ℕ, List, [], ◌∷◌, ◌++◌, ap, arith, length, sym, take}
use Rattle.std.proofs.lemmas.List.{take_more}
use Rattle.plural_runtime.specs.Inner.RuleViews.{lent_relation}
use Rattle.plural_base.proofs.rules.ordered.relation.ranges_of.Goals as goal

pub loop-index-preserved : goal.loop-index-preserved
loop-index-preserved c =
    let ranges : List (ℕ × ℕ) = (lent_relation c.args.relation.now).meaning.ranges in
    let index : ℕ = c.loop-index.index in
    let many : c.len-index-end.result ≡ length ranges = c.len-index-end.ensures in
    let below : index < length ranges = omega arith in
    let pushed = c.in_ok-push.ensures.items in
    pushed ∙ ap (λ (front : List (ℕ × ℕ)). front ++ c.ends_at.result ∷ []) c.loop-index.invariant
    ∙ ap (λ (range : ℕ × ℕ). take index ranges ++ range ∷ []) c.ends_at.ensures
    ∙ sym (take_more ranges index (0, 0) below)
