use Rattle.std.proofs.Common.{◌<◌, ◌∙◌, ap, arith, length, length-set}
use Rattle.icu_plurals.specs.Categories.{place_of}
use Rattle.icu_plurals.specs.CategoryTables.{integer_entry}
use Rattle.plural_exports.proofs.ManyIntegers.{all_written, behind_more, front_more}
use Rattle.plural_exports.proofs.integers.write_categories.Goals as goal

pub loop-k-preserved : goal.loop-k-preserved
loop-k-preserved g c =
    let out = c.loop-k.out in
    let k = c.loop-k.k in
    let inside : k < length out = omega (arith, c.loop-k.invariant.0, c.requires) in (
      length-set out k c.number_of.result ∙ c.loop-k.invariant.0,
      front_more (integer_entry (g.R.ManyAsked.rules c.args.rules.now)) c.args.numbers.now out k c.number_of.result (omega arith) inside
          (c.number_of.ensures ∙ ap place_of c.category_for_integer.ensures) c.loop-k.invariant.1,
      behind_more out c.args.out.now k c.number_of.result c.loop-k.invariant.2,
    )

pub returns : goal.returns
returns g c =
    all_written (integer_entry (g.R.ManyAsked.rules c.args.rules.now)) c.args.numbers.now c.loop-k.out c.args.out.now _
    c.loop-k.invariant.1 c.loop-k.invariant.2 (omega arith)
