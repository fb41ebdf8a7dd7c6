use Rattle.std.proofs.Common.{◌∷◌, [], arith, rules}
use Rattle.plural_operands.proofs.numbers.ShortReading.{nothing_left}
use Rattle.plural_reference.proofs.plain.PlainBytes.{ShowsAt, split_front}
use Rattle.plural_reference.proofs.plain.PlainLists.{end_leads, list_leads}
use Rattle.plural_reference.proofs.parser.samples.plain.next_list.Goals as goal

pub returns-in-empty-clause-leads : goal.returns-in-empty-clause-leads
returns-in-empty-clause-leads c = end_leads c.args.text.now (nothing_left c.args.text.now (omega (arith, c.in-empty.len_below)))

pub returns-in-32-clause-leads : goal.returns-in-32-clause-leads
returns-in-32-clause-leads c =
    let shows : ShowsAt (32 ∷ 64 ∷ []) 0 c.args.text.now = (search rules, (search rules, tt)) in
    list_leads c.args.text.now _ c.list_front.result
    (split_front (32 ∷ 64 ∷ []) c.args.text.now (omega (arith, c.in-32.len_at_least)) shows) c.list_front.ensures.leads
