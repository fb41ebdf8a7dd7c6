use Rattle.message_pattern.specs.PatternParts.{parts_view}
use Rattle.message_pattern.proofs.Answered.{answers, in_grammar}
use Rattle.message_pattern.proofs.Outcomes.{fault_of}
use Rattle.message_pattern.proofs.pattern.read.Goals as goal

pub returns-in-Ok-message : goal.returns-in-Ok-message
returns-in-Ok-message c =
    answers _ _
    (in_grammar c.args.text.now c.in-Ok-message.field-0.now (parts_view c.message.new.parts.items)
    (rw c.in-Ok.ensures.items at c.in-Ok-message.ensures.outcome))

pub returns : goal.returns
returns c =
    rw c.pattern_error.ensures
    (answers _ _
    (fault_of c.args.formats c.args.text.now c.in-Ok.parts.items c.message.new.parts.items c.in-Err-message.error
    c.in-Ok.ensures.items c.in-Err-message.ensures.outcome))
