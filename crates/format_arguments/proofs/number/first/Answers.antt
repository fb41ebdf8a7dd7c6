use Rattle.std.proofs.Common.{◌∙◌, sym}
use Rattle.format_arguments.specs.CountedArguments.{first_showing, shows}
use Rattle.format_arguments.proofs.Finds.{passed, found, nowhere}
use Rattle.format_arguments.proofs.number.first.Goals as goal

pub loop-argument-preserved : goal.loop-argument-preserved
loop-argument-preserved c =
    passed (shows c.args.sign c.args.singular.now) c.args.plural.now c.loop-argument.argument-index _ c.loop-argument-test.true
    (sym c.shows.ensures ∙ c.if-shows.false)
    ∙ c.loop-argument.invariant

pub returns-then-shows : goal.returns-then-shows
unfolding first_showing
returns-then-shows c =
    sym (sym c.loop-argument.invariant
    ∙ found (shows c.args.sign c.args.singular.now) c.args.plural.now c.loop-argument.argument-index _ c.loop-argument-test.true
    (sym c.shows.ensures ∙ c.if-shows.true))

pub returns : goal.returns
unfolding first_showing
returns c =
    sym (sym c.loop-argument.invariant
    ∙ nowhere (shows c.args.sign c.args.singular.now) c.args.plural.now c.loop-argument.argument-index c.loop-argument-test.false)
