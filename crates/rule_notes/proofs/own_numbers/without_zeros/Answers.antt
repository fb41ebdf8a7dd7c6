use Rattle.rule_notes.proofs.Decimals.{all_left, one_left}
use Rattle.rule_notes.proofs.own_numbers.without_zeros.Goals as goal

pub returns-then-written-eq0-2 : goal.returns-then-written-eq0-2
returns-then-written-eq0-2 c =
    one_left c.args.places c.args.written c.requires.places c.requires.written c.if-written-eq0.false c.if-written-eq0-2.true

pub returns-else-written-eq0-2 : goal.returns-else-written-eq0-2
returns-else-written-eq0-2 c = all_left c.args.places c.args.written c.if-written-eq0-2.false
