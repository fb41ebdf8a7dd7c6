use Rattle.std.proofs.Common.{◌≡◌, ◌-◌, ◌∷◌, [], ℕ, List, drop, get_or, length, take, arith, rules}
use Rattle.plural_reference.specs.Samples.{IsExponent}
use Rattle.plural_reference.specs.Inner.SampleReading.PlainSamples.{Begins, IsRun}
use Rattle.plural_reference.proofs.plain.PlainBytes.{c_exponent, e_exponent, if_some_on, split_front}
use Rattle.plural_reference.proofs.parser.samples.plain.behind_exponent.Goals as goal

pub returns-in-101-clause-exponent : goal.returns-in-101-clause-exponent
returns-in-101-clause-exponent c =
    let text : List ℕ = c.args.text.now in
    let digits : List ℕ = take (length text - 1) (drop 1 text) in
    let mark : get_or c.args.text.now 0 0 ≡ 101 = search rules in
    let parts : text ≡ 101 ∷ digits = split_front (101 ∷ []) text (omega (arith, c.in-101.len_at_least)) (mark, tt) in
    if_some_on (Begins IsRun digits) (Begins IsExponent text) c.behind_one_run.result (λ rest h. e_exponent text digits rest parts h) c.behind_one_run.ensures.run

pub returns-in-99-clause-exponent : goal.returns-in-99-clause-exponent
returns-in-99-clause-exponent c =
    let text : List ℕ = c.args.text.now in
    let digits : List ℕ = take (length text - 1) (drop 1 text) in
    let mark : get_or c.args.text.now 0 0 ≡ 99 = search rules in
    let parts : text ≡ 99 ∷ digits = split_front (99 ∷ []) text (omega (arith, c.in-99.len_at_least)) (mark, tt) in
    if_some_on (Begins IsRun digits) (Begins IsExponent text) c.behind_one_run-in-99.result (λ rest h. c_exponent text digits rest parts h) c.behind_one_run-in-99.ensures.run
