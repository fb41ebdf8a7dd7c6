use Rattle.plural_reference.proofs.plain.PlainLists.{front_leads}
use Rattle.plural_reference.proofs.parser.samples.plain.list_front.Goals as goal

pub returns-in-Some-clause-leads : goal.returns-in-Some-clause-leads
returns-in-Some-clause-leads c =
    front_leads c.args.text.now c.in-Some.list.now c.in-Some.ensures.kind (c.begins_with_digit.ensures c.if-begins_with_digit.true)
