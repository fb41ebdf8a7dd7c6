use Rattle.plural_reference.proofs.rules.WholeRules.{text_is_no_rule, text_is_rule}
use Rattle.plural_reference.proofs.parser.whole.is_read_whole.Goals as goal

pub returns-in-Ok : goal.returns-in-Ok
returns-in-Ok c = text_is_rule c.args.text.now _ c.in-Ok.whole c.new-parser.ensures c.in-Ok.ensures

pub returns-in-Err-Parse : goal.returns-in-Err-Parse
returns-in-Err-Parse c =
    text_is_no_rule c.args.text.now _ c.new-parser.ensures (rw c.in-Err-Parse.field-0-is at c.in-Err-Parse.ensures)
