use Rattle.std.proofs.Common.{refl}
use Rattle.plural_base.specs.Categories.{name_of}
use Rattle.message_format.specs.FormatParts.{branches_at}
use Rattle.message_format.proofs.Equal.{counted_by_text, not_counted}
use Rattle.message_format.proofs.steps.counted_by_category.Goals as goal

pub returns-clause-step : goal.returns-clause-step
returns-clause-step g c =
    counted_by_text (g.R.TextRules.rules c.args.rules.now) c.args.name.now (branches_at (g.P.MessageParts.parts c.args.argument))
    c.args.text.now c.as_bytes.result.now (name_of c.in-Ok.category) c.in-Ok.category
    (g.P.MessageParts.parts c.branch_of_category-branch.result) c.in-Ok.ensures.chosen refl c.requires.none
    c.branch_of_category-branch.ensures.branch c.as_bytes.ensures.value

pub returns-in-Err-clause-step : goal.returns-in-Err-clause-step
returns-in-Err-clause-step g c =
    not_counted (g.R.TextRules.rules c.args.rules.now) c.args.name.now (branches_at (g.P.MessageParts.parts c.args.argument))
    c.args.text.now c.category_for_text.result c.in-Err.error c.of_number.result c.in-Err.is c.of_number.ensures
    c.category_for_text.ensures.syntax.0 c.category_for_text.ensures.limit.0
