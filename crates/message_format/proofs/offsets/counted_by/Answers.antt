use Rattle.message_format.specs.FormatParts.{branches_at}
use Rattle.message_format.proofs.Less.{chosen, less_refused}
use Rattle.message_format.proofs.offsets.counted_by.Goals as goal

pub returns-in-Ok-clause-step : goal.returns-in-Ok-clause-step
returns-in-Ok-clause-step g c =
    let s = rw c.significand.ensures at c.in_ok-text.ensures in
    let w = c.in-Ok.ensures.number in
    chosen c.texts_write_one_number.ensures.compact c.numbers_are_read_again.ensures.compact (g.R.TextRules.rules c.args.rules.now)
    c.args.name.now (branches_at (g.P.MessageParts.parts c.args.argument)) c.args.number.now c.args.offset.now
    c.in_ok-text.text.items c.deref.result.now c.deref.ensures.value s c.in-Ok.less _ w.0 w.1 c.in_ok-found-in-Ok.ensures.branch

pub returns-clause-step : goal.returns-clause-step
returns-clause-step g c =
    let s = rw c.significand.ensures at c.in_ok-text.ensures in
    less_refused c.texts_write_one_number.ensures.compact c.numbers_are_read_again.ensures.compact (g.R.TextRules.rules c.args.rules.now)
    c.args.name.now (branches_at (g.P.MessageParts.parts c.args.argument)) c.args.number.now c.args.offset.now
    c.in_ok-text.text.items c.deref.result.now c.deref.ensures.value s c.number_of_text.result c.in-Err.error c.of_number.result c.in-Err.is
    c.of_number.ensures c.number_of_text.ensures.syntax c.number_of_text.ensures.limit
