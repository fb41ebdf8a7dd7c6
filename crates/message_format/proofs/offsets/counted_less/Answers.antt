use Rattle.message_format.specs.FormatParts.{branches_at}
use Rattle.message_format.proofs.Less.{number_gives, number_refused}
use Rattle.message_format.proofs.offsets.counted_less.Goals as goal

pub returns-in-Ok-clause-step : goal.returns-in-Ok-clause-step
returns-in-Ok-clause-step g c =
    let w = c.in-Ok.ensures.number in
    number_gives (g.P.MessageParts.parts) (g.R.TextRules.rules c.args.rules.now) c.args.name.now
    (branches_at (g.P.MessageParts.parts c.args.argument)) c.args.digits.now c.args.text.now _ c.less.result w.0 w.1 w.2
    c.less.ensures.step

pub returns-in-Err-clause-step : goal.returns-in-Err-clause-step
returns-in-Err-clause-step g c =
    number_refused (g.R.TextRules.rules c.args.rules.now) c.args.name.now (branches_at (g.P.MessageParts.parts c.args.argument))
    c.args.digits.now c.args.text.now c.from_str.result c.in-Err.error c.of_number.result c.in-Err.is c.of_number.ensures
    c.from_str.ensures.syntax.0 c.from_str.ensures.limit.0
