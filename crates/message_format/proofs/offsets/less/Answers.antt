use Rattle.std.proofs.Common.{◌≡◌, arith}
use Rattle.message_format.specs.FormatParts.{branches_at}
use Rattle.message_format.proofs.Less.{offset_refused, offset_gives}
use Rattle.message_format.proofs.offsets.less.Goals as goal

pub returns-in-Ok-clause-step : goal.returns-in-Ok-clause-step
returns-in-Ok-clause-step g c =
    let none : c.args.number.now.exponent ≡ 0 = omega arith in
    let w = c.in-Ok.ensures.number in
    offset_gives (g.R.TextRules.rules c.args.rules.now) c.args.name.now (branches_at (g.P.MessageParts.parts c.args.argument))
    c.args.digits.now c.args.number.now none (g.P.MessageParts.parts) _ c.counted_by.result w.0 w.1 c.counted_by.ensures.step

pub returns-in-Err-clause-step : goal.returns-in-Err-clause-step
returns-in-Err-clause-step g c =
    let none : c.args.number.now.exponent ≡ 0 = omega arith in
    offset_refused (g.R.TextRules.rules c.args.rules.now) c.args.name.now (branches_at (g.P.MessageParts.parts c.args.argument))
    c.args.digits.now c.args.number.now none c.offset_of.result c.in-Err.error c.of_number.result c.in-Err.is
    c.of_number.ensures c.offset_of.ensures.syntax c.offset_of.ensures.limit
