use Rattle.message_format.specs.FormatParts.{branches_at}
use Rattle.message_format.proofs.Equal.{counted_by, not_counted}
use Rattle.message_format.proofs.steps.counted_by_digits.Goals as goal

pub returns-in_ok-found-in-Ok-clause-step : goal.returns-in_ok-found-in-Ok-clause-step
returns-in_ok-found-in-Ok-clause-step g c =
    let w = c.in-Ok.ensures.number in
    counted_by (g.R.TextRules.rules c.args.rules.now) c.args.name.now _ c.args.text.now c.as_bytes.result.now _ _ w.0 w.1 w.2
    c.in_ok-found-in-Ok.ensures.branch c.as_bytes.ensures.value

pub returns-in-Err-clause-step : goal.returns-in-Err-clause-step
returns-in-Err-clause-step g c =
    not_counted (g.R.TextRules.rules c.args.rules.now) c.args.name.now (branches_at (g.P.MessageParts.parts c.args.argument))
    c.args.text.now c.from_str.result c.in-Err.error c.of_number.result c.in-Err.is c.of_number.ensures c.from_str.ensures.syntax.0
    c.from_str.ensures.limit.0
