use Rattle.std.proofs.Common.{◌∷◌, [], arith, rules}
use Rattle.plural_reference.proofs.plain.PlainBytes.{ShowsAt, split_front}
use Rattle.plural_reference.proofs.plain.PlainLists.{ellipsis_leads}
use Rattle.plural_reference.proofs.parser.samples.plain.behind_ellipsis.Goals as goal

pub returns-clause-leads : goal.returns-clause-leads
returns-clause-leads c =
    let shows : ShowsAt (0xe2 ∷ 0x80 ∷ 0xa6 ∷ []) 0 c.args.text.now = (search rules, (search rules, (search rules, tt))) in
    ellipsis_leads c.args.text.now _ c.next_list.result
    (split_front (0xe2 ∷ 0x80 ∷ 0xa6 ∷ []) c.args.text.now (omega (arith, c.in-226.len_at_least)) shows) c.next_list.ensures.leads
