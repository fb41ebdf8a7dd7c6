use Rattle.std.proofs.Common.{◌∷◌, [], ℕ, List, arith, rules}
use Rattle.plural_reference.proofs.plain.PlainBytes.{ShowsAt, split_front}
use Rattle.plural_reference.proofs.plain.PlainLists.{number_comma, number_leads}
use Rattle.plural_reference.proofs.parser.samples.plain.behind_sample.Goals as goal

pub returns-in-44-clause-leads : goal.returns-in-44-clause-leads
returns-in-44-clause-leads c =
    let number : List ℕ = c.in-Some.number.now in
    let shows : ShowsAt (44 ∷ 32 ∷ []) 0 number = (search rules, (search rules, tt)) in
    number_comma c.args.text.now number _ c.in-Some.ensures.number
    (split_front (44 ∷ 32 ∷ []) number (omega (arith, c.in-44.len_at_least)) shows)

pub returns-in_default-number-clause-leads : goal.returns-in_default-number-clause-leads
returns-in_default-number-clause-leads c =
    number_leads c.args.text.now c.in-Some.number.now c.behind_range.result c.in-Some.ensures.number c.behind_range.ensures.leads
