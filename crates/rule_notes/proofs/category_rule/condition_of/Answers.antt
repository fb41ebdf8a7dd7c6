use Rattle.rule_notes.proofs.TextConditions.{has_condition, has_none}
use Rattle.rule_notes.proofs.category_rule.condition_of.Goals as goal

pub returns-in-Ok : goal.returns-in-Ok
returns-in-Ok c =
    has_condition c.args.text.now c.as_bytes-bytes.result.now c.new-tokens.result c.in-Ok.condition c.as_bytes-bytes.ensures.value
    c.if-text-gt-MOST_TEXT_BYTES.false c.new-tokens.ensures.tokens c.in-Ok.ensures

pub returns-in-Err-Parse : goal.returns-in-Err-Parse
returns-in-Err-Parse c =
    has_none c.args.text.now c.as_bytes-bytes.result.now c.new-tokens.result c.in-Err-Parse.field-0-0 c.as_bytes-bytes.ensures.value
    c.new-tokens.ensures.tokens (rw c.in-Err-Parse.field-0-is at c.in-Err-Parse.ensures)
