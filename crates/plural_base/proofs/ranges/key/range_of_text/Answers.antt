use Rattle.std.proofs.Common.{◌∙◌}
use Rattle.plural_base.proofs.pairs.RangeTexts.{not_split, start_unnamed, end_unnamed, both_named}
use Rattle.plural_base.proofs.ranges.key.range_of_text.Goals as goal

pub returns-in_err-start : goal.returns-in_err-start
returns-in_err-start c = c.from_residual.ensures ∙ not_split c.args.text.now c.in_err-start.ensures.cases

pub returns-in_err-category_of_name : goal.returns-in_err-category_of_name
returns-in_err-category_of_name c =
    c.from_residual-in_err-category_of_name.ensures
    ∙ start_unnamed c.args.text.now (c.in_ok-start.start, c.in_ok-start.end) c.in_ok-start.ensures.cases c.in_err-category_of_name.ensures

pub returns-in_err-category_of_name-2 : goal.returns-in_err-category_of_name-2
returns-in_err-category_of_name-2 c =
    c.from_residual-in_err-category_of_name-2.ensures
    ∙ end_unnamed c.args.text.now (c.in_ok-start.start, c.in_ok-start.end) c.in_ok-start.ensures.cases c.in_err-category_of_name-2.ensures

pub returns : goal.returns
returns c =
    both_named c.args.text.now (c.in_ok-start.start, c.in_ok-start.end) c.in_ok-start.ensures.cases c.in_ok-category_of_name.field-0
    c.in_ok-category_of_name-2.field-0
    c.in_ok-category_of_name.ensures c.in_ok-category_of_name-2.ensures
