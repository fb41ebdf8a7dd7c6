use Rattle.std.proofs.Common.{◌∷◌, [], arith, rules}
use Rattle.plural_reference.proofs.plain.PlainBytes.{ShowsAt, split_front}
use Rattle.plural_reference.proofs.plain.PlainLists.{comma_leads, range_leads}
use Rattle.plural_reference.proofs.parser.samples.plain.range_end.Goals as goal

pub returns-in-44-clause-leads : goal.returns-in-44-clause-leads
returns-in-44-clause-leads c =
    let shows : ShowsAt (44 ∷ 32 ∷ []) 0 c.args.text.now = (search rules, (search rules, tt)) in
    comma_leads c.args.text.now _ (split_front (44 ∷ 32 ∷ []) c.args.text.now (omega (arith, c.in-44.len_at_least)) shows)

pub returns-in_default-clause-leads : goal.returns-in_default-clause-leads
returns-in_default-clause-leads c = range_leads c.args.text.now c.next_list.result c.next_list.ensures.leads
