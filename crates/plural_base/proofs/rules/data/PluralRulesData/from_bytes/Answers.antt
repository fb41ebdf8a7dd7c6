use Rattle.std.proofs.Common.{◌≡◌}
use Rattle.plural_base.proofs.encoding.RuleItemFaults.{are_read, items_refused, read_again}
use Rattle.plural_base.proofs.rules.data.PluralRulesData.from_bytes.Goals as goal

pub returns-clause-accepted : goal.returns-clause-accepted
returns-clause-accepted c = λ rules h.
    let bytes = c.args.bytes.now in
    let list = c.in-Ok.list in
    let read = c.rules_in.result in
    read_again c.rules_have_one_encoding.ensures bytes list read rules
    (λ others are. let e = c.in-Ok.ensures.accepted others are in let same : others ≡ list = cc in same)
    c.rules_in.ensures.fault
    (are_read bytes list read c.in-Ok.ensures.ok c.rules_in.ensures.can_pack c.rules_in.ensures.items) h

pub returns-clause-refused : goal.returns-clause-refused
returns-clause-refused c =
    let list = c.in-Ok.list in
    items_refused c.args.bytes.now list c.rules_in.result c.in-Ok.ensures.ok
    (λ others are. let e = c.in-Ok.ensures.accepted others are in let same : others ≡ list = cc in same)
    (λ fault h. let e = (c.in-Ok.ensures.refused fault).1 h in cc)
    c.rules_in.ensures.fault
