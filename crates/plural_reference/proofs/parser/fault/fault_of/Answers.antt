use Rattle.std.proofs.Common.{sym, ◌∙◌}
use Rattle.plural_reference.proofs.tokens.ScanSound.{tokens_are}
use Rattle.plural_reference.proofs.rules.FaultBytes.{left_of, read_is_none, none_of_read, fault_is_not_read, fault_is}
use Rattle.plural_reference.proofs.parser.fault.fault_of.Goals as goal

pub returns-in-Ok-clause-read : goal.returns-in-Ok-clause-read
returns-in-Ok-clause-read c = read_is_none c.args.text.now _ c.new-parser.ensures c.in-Ok.ensures

pub returns-in-Ok-clause-fault : goal.returns-in-Ok-clause-fault
returns-in-Ok-clause-fault c = none_of_read c.args.text.now _ c.new-parser.ensures c.in-Ok.ensures

pub returns-in-Err-Parse-clause-read : goal.returns-in-Err-Parse-clause-read
returns-in-Err-Parse-clause-read c =
    fault_is_not_read c.args.text.now _ _ _ _ c.new-parser.ensures (rw c.in-Err-Parse.field-0-is at c.in-Err-Parse.ensures)

pub returns-in-Err-Parse-clause-fault : goal.returns-in-Err-Parse-clause-fault
returns-in-Err-Parse-clause-fault c =
    let place = rw c.in-Err-Parse.field-0-is at c.in-Err-Parse.ensures in
    let end = left_of _ _ _ place in
    fault_is c.args.text.now _ _ _ _ c.new-parser.ensures place
    (c.last_tokens-rest.ensures.stands end.0 _ (sym (tokens_are c.args.text.now _ c.new-parser.ensures) ∙ end.1) (sym c.count.ensures))
