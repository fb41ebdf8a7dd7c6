use Rattle.plural_reference.proofs.samples.SampleParserSteps.{no_exponent_value, takes_digits}
use Rattle.plural_reference.proofs.samples.SampleSinks.{keeps_no_exponent, keeps_exponent}
use Rattle.plural_reference.proofs.parser.Parser.exponent.Goals as goal

pub returns-in_default-clause-exponent : goal.returns-in_default-clause-exponent
returns-in_default-clause-exponent g c = λ before h k. keeps_no_exponent _ _ before _ _ k c.in_default.ensures.0 c.in_default.ensures.1

pub returns-in_default-take_number-clause-exponent : goal.returns-in_default-take_number-clause-exponent
returns-in_default-take_number-clause-exponent g c =
    λ before h k. no_exponent_value before _ _ _ _ h c.in-Some.ensures c.in_default-take_number.ensures.0 c.in_default-take_number.ensures.1

pub returns-clause-exponent : goal.returns-clause-exponent
returns-clause-exponent g c = λ before h k.
    keeps_exponent _ before _ _ _ _ _ _ _ _ h k c.in-Some.ensures c.in_ok-push_mark.ensures
    (takes_digits _ _ _ c.in-Some-take_number.ensures) c.in_ok-push_number.ensures
