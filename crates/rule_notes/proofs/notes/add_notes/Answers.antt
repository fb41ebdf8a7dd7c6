use Rattle.rule_notes.proofs.NoteGrowth.{adds_rule}
use Rattle.rule_notes.proofs.notes.add_notes.Goals as goal

pub loop-index-preserved : goal.loop-index-preserved
loop-index-preserved c =
    let rules = c.args.rules.now in
    let index = c.loop-index.index in
    let rule = c.index-rules-index.result in
    let so_far = c.loop-index.notes.items in
    let new = c.add_rule_notes.new.notes.items in
    adds_rule rules index rule c.args.notes.now.items so_far new c.loop-index-test.true c.index-rules-index.is c.loop-index.invariant
    c.in_ok-add_rule_notes.ensures
