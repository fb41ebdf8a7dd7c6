use Rattle.std.proofs.Common.{◌≡◌, ◌-◌, ◌∷◌, [], ℕ, List, drop, get_or, length, take, arith, rules}
use Rattle.plural_reference.proofs.plain.PlainBytes.{split_front}
use Rattle.plural_reference.proofs.plain.PlainLists.{single_leads, double_leads}
use Rattle.plural_reference.proofs.parser.samples.plain.behind_range.Goals as goal

pub returns-in_default-lower-clause-leads : goal.returns-in_default-lower-clause-leads
returns-in_default-lower-clause-leads c =
    single_leads c.args.text.now c.in-Some.lower.now c.range_end.result c.in-Some.ensures.exponent c.range_end.ensures.leads

pub returns-clause-leads : goal.returns-clause-leads
returns-clause-leads c =
    let lower : List ℕ = c.in-Some.lower.now in
    let upper : List ℕ = take (length lower - 1) (drop 1 lower) in
    let tilde : get_or lower 0 0 ≡ 126 = search rules in
    let parts : lower ≡ 126 ∷ upper = split_front (126 ∷ []) lower (omega (arith, c.in-126.len_at_least)) (tilde, tt) in
    double_leads c.args.text.now lower upper c.in-Some-behind_number.number.now c.in-Some-behind_exponent.rest.now c.range_end-2.result
    c.in-Some.ensures.exponent parts c.in-Some-behind_number.ensures.number c.in-Some-behind_exponent.ensures.exponent
    c.range_end-2.ensures.leads
