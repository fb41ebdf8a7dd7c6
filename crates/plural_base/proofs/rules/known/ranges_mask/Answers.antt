use Rattle.std.proofs.Common.{◌∙◌, ◌<◌, ap, sym, length, take, arith}
use Rattle.std.specs.Prelude.{◌||◌}
use Rattle.std.proofs.lemmas.List.Folds.{list_any_more}
use Rattle.plural_reference.specs.Truth.{is_in_ranges, range_holds}
use Rattle.plural_runtime.specs.Inner.RuleViews.{lent_relation}
use Rattle.plural_base.specs.Inner.Masks.{has_bit}
use Rattle.plural_base.proofs.integers.Bits.{has-none, has-or}
use Rattle.plural_base.proofs.rules.known.ranges_mask.Goals as goal

pub loop-place-init : goal.loop-place-init
loop-place-init c = λ k h. has-none k

pub loop-place-preserved : goal.loop-place-preserved
loop-place-preserved c = λ k h.
    let ranges = (lent_relation c.args.relation.now).meaning.ranges in
    let place = c.loop-place.place in
    let within : place < length ranges = omega (arith, c.loop-place-test.true, c.len-count.ensures) in
    has-or c.loop-place.mask c.range_mask-mask.result k
    ∙ ap (λ b. b || has_bit c.range_mask-mask.result k) (c.loop-place.invariant k h)
    ∙ ap (λ b. is_in_ranges (take place ranges) k || b) (c.range_mask-mask.ensures k h)
    ∙ sym (list_any_more (range_holds k) ranges place (0, 0) within)
