use Rattle.std.proofs.lemmas.Result.{err_from_is_err_and}
use Rattle.plural_reference.specs.declared.error.ParseError.TheVariants.{ExpectedValue}
use Rattle.plural_reference.proofs.samples.SampleComplete.{sample_stop}
use Rattle.plural_reference.proofs.samples.SampleSinks.{kept_is, keeps_sample, exponent_fault}
use Rattle.plural_reference.proofs.parser.Parser.sample.Goals as goal

pub returns-then-not-is_before_sample-clause-sample : goal.returns-then-not-is_before_sample-clause-sample
returns-then-not-is_before_sample-clause-sample g c = λ p. sample_stop p _ ExpectedValue c.if-not-is_before_sample.ensures

pub returns-in_err-exponent-clause-sample : goal.returns-in_err-exponent-clause-sample
returns-in_err-exponent-clause-sample g c =
    let p = err_from_is_err_and c.from_residual-in_err-exponent.result c.from_residual-in_err-exponent.ensures.1 in
    rw (p.1, p.2)
    (exponent_fault _ _ _ _ _ _ (c.in_ok-number.ensures.number (kept_is _ _ _ c.in_ok-text.ensures))
    c.in_err-exponent.ensures.exponent)

pub returns-clause-sample : goal.returns-clause-sample
returns-clause-sample g c =
    keeps_sample _ _ _ _ _ _ c.if-not-is_before_sample.ensures
    (c.in_ok-number.ensures.number (kept_is _ _ _ c.in_ok-text.ensures)) c.in_ok-exponent.ensures.exponent
