use Rattle.std.proofs.Common.{refl}
use Rattle.plural_reference.proofs.samples.SampleSinks.{keeps_number_alone, keeps_number_with_point}
use Rattle.plural_reference.proofs.parser.Parser.number.Goals as goal

pub returns-then-not-take_if-clause-number : goal.returns-then-not-take_if-clause-number
returns-then-not-take_if-clause-number g c = λ empty.
    let digits = c.in_ok-digits.ensures.digits _ refl empty in
    let n = c.if-not-take_if.ensures in
    keeps_number_alone _ _ _ _ _ digits.0 digits.1 n.0 n.1

pub returns-clause-number : goal.returns-clause-number
returns-clause-number g c = λ empty.
    let digits = c.in_ok-digits.ensures.digits _ refl empty in
    keeps_number_with_point _ _ _ _ _ _ _ _ digits.0 c.if-not-take_if.ensures c.in_ok-push_mark.ensures c.in_ok-digits-2.ensures.digits
