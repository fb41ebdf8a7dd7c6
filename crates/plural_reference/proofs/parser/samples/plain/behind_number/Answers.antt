use Rattle.std.proofs.Common.{◌≡◌, ◌-◌, ◌∷◌, [], ℕ, List, drop, get_or, length, take, arith, rules}
use Rattle.plural_reference.specs.Inner.SampleReading.PlainSamples.{Begins, HasShortRun, IsNumber}
use Rattle.plural_reference.proofs.plain.PlainBytes.{if_some_on, number_with_fraction, split_front, whole_number}
use Rattle.plural_reference.proofs.parser.samples.plain.behind_number.Goals as goal

pub returns-in-46-clause-number : goal.returns-in-46-clause-number
returns-in-46-clause-number c =
    let whole : List ℕ = c.in_ok-whole.whole.now in
    let after : List ℕ = take (length whole - 1) (drop 1 whole) in
    let point : get_or whole 0 0 ≡ 46 = search rules in
    let parts : whole ≡ 46 ∷ after = split_front (46 ∷ []) whole (omega (arith, c.in-46.len_at_least)) (point, tt) in
    if_some_on (HasShortRun after) (Begins IsNumber c.args.text.now) c.behind_digits-in-46.result
    (λ rest h. number_with_fraction c.args.text.now whole after rest c.in_ok-whole.ensures.digits parts h)
    c.behind_digits-in-46.ensures.digits

pub returns-in_default-clause-number : goal.returns-in_default-clause-number
returns-in_default-clause-number c = whole_number c.args.text.now c.in_ok-whole.whole.now c.in_ok-whole.ensures.digits
