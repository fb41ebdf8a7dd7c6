use Rattle.std.proofs.Common.{◌<◌, ◌∙◌, length, arith, length-set, subst}
use Rattle.std.specs.Prelude.{None, slice_index_or}
use Rattle.plural_base.specs.declared.category.PluralCategory.TheVariants.{Zero}
use Rattle.plural_base.specs.FiveRules.{FiveRules}
use Rattle.plural_base.specs.Inner.WholeNumbers.{IsTold, category_of_whole}
use Rattle.plural_base.proofs.integers.Residues.{entries_more}
use Rattle.plural_base.proofs.rules.prepared.low_categories.Goals as goal

pub low_category-requires : goal.low_category-requires
low_category-requires c =
    let k = c.loop-k.k in
    let P : FiveRules → Type 0 = λ rules. IsTold (category_of_whole rules k) (slice_index_or c.told_low-told.result k None) in
    subst P c.rules.view_is (c.told_low-told.ensures k c.loop-k-test.true)

pub loop-k-preserved : goal.loop-k-preserved
loop-k-preserved c =
    let low = c.loop-k.low in
    let k = c.loop-k.k in
    let within : k < length low = omega (arith, c.loop-k.invariant.0) in (
      length-set low k c.low_category.result ∙ c.loop-k.invariant.0,
      entries_more low k c.low_category.result Zero (category_of_whole c.args.rules.now) within c.loop-k.invariant.1
          c.low_category.ensures,
    )
