use Rattle.std.proofs.Common.{sym}
use Rattle.plural_checker.proofs.TextsRead.{is_not_read, reads_fault, reads_rule}
use Rattle.plural_checker.proofs.read_text.reading_of.Goals as goal

pub returns-in-Ok : goal.returns-in-Ok
returns-in-Ok c =
    reads_rule c.args.text.now c.as_bytes-bytes.result.now c.new-tokens.result c.in-Ok.rule c.as_bytes-bytes.ensures.value
    (sym c.if-is_long.ensures) c.new-tokens.ensures.tokens c.new-tokens.ensures.at_most
    c.conditions_of_texts_are_spellable.ensures c.in-Ok.ensures

pub fault_in-requires : goal.fault_in-requires
fault_in-requires c = is_not_read c.as_bytes-bytes.result.now _ (rw c.in-Err-Parse.field-0-is at c.in-Err-Parse.ensures)

pub returns-in_ok-fault_in-in-Err-Parse : goal.returns-in_ok-fault_in-in-Err-Parse
returns-in_ok-fault_in-in-Err-Parse c =
    reads_fault c.args.text.now c.as_bytes-bytes.result.now c.in_ok-fault_in-in-Err-Parse.field-0 c.as_bytes-bytes.ensures.value
    (sym c.if-is_long.ensures) c.in_ok-fault_in-in-Err-Parse.ensures
