use Rattle.std.proofs.Common.{◌≡◌, ◌<◌, ◌+◌, ◌∙◌, ℕ, ap, length, arith}
use Rattle.std.specs.Prelude.{max}
use Rattle.plural_runtime.specs.Inner.RuleViews.{lent_relation}
use Rattle.plural_base.proofs.integers.Bounds.{greater_is, one_end_more}
use Rattle.plural_base.proofs.rules.residue_class.first_above_ranges.Goals as goal

pub loop-k-preserved : goal.loop-k-preserved
loop-k-preserved c =
    let ranges = (lent_relation c.args.relation.now).meaning.ranges in
    let within : c.loop-k.k < length ranges = omega (arith, c.loop-k-test.true, c.len-count.ensures) in
    let next : c.max-bound.result ≡ max c.loop-k.bound (c.from.result + 1) = c.max-bound.ensures ∙ greater_is _ _ in
    one_end_more ranges c.loop-k.k c.loop-k.bound c.from.result c.max-bound.result within c.loop-k.invariant
    (c.from.ensures ∙ ap (λ (range : ℕ × ℕ). range.1) c.ends_at.ensures) next
