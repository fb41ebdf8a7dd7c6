use Rattle.std.proofs.Common.{◌<◌, length, sym, arith, false, true}
use Rattle.std.proofs.lemmas.List.Folds.{list_any_more}
use Rattle.plural_runtime.specs.Inner.RuleViews.{lent_relation}
use Rattle.plural_base.specs.Inner.WholeNumbers.{range_or}
use Rattle.plural_base.proofs.integers.Told.{told_as}
use Rattle.plural_base.proofs.rules.known.told_each.Goals as goal

pub loop-k-init : goal.loop-k-init
loop-k-init c = λ class value h fits. c.told_alike-told.ensures class h

pub loop-k-preserved : goal.loop-k-preserved
loop-k-preserved c = λ class value h fits.
    let ranges = (lent_relation c.args.relation.now).meaning.ranges in
    let k = c.loop-k.k in
    let known = c.args.known in
    let within : k < length ranges = omega (arith, c.loop-k-test.true, c.len-count.ensures) in
    told_as class _ _ _ _ c.either-told.result
    (sym (list_any_more (range_or false known class value) ranges k (0, 0) within))
    (sym (list_any_more (range_or true known class value) ranges k (0, 0) within))
    (c.either-told.ensures class _ _ _ _ (c.loop-k.invariant class value h fits) (c.told_at.ensures class value h fits))
