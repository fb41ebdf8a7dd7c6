use Rattle.std.proofs.lemmas.Result.{err_from_is_err_and}
use Rattle.plural_reference.proofs.reading.ParserSteps.{passes_on}
use Rattle.plural_reference.proofs.samples.SampleSinks.{keeps_range_alone, keeps_range_to, upper_fault}
use Rattle.plural_reference.proofs.parser.Parser.sample_range.Goals as goal

pub returns-then-not-take_if-clause-range : goal.returns-then-not-take_if-clause-range
returns-then-not-take_if-clause-range g c =
    let n = c.if-not-take_if.ensures in keeps_range_alone _ _ _ _ _ c.in_ok-lower_val.ensures.sample n.0 n.1

pub returns-in_err-sample-clause-range : goal.returns-in_err-sample-clause-range
returns-in_err-sample-clause-range g c =
    let p = err_from_is_err_and c.from_residual-in_err-sample.result c.from_residual-in_err-sample.ensures.1 in
    rw (p.1, p.2)
    (passes_on _ _ c.in_err-sample.field-0.0 c.in_err-sample.ensures.sample
    (λ kind q. upper_fault _ _ _ _ _ _ kind c.in_ok-lower_val.ensures.sample c.if-not-take_if.ensures q))

pub returns-clause-range : goal.returns-clause-range
returns-clause-range g c =
    keeps_range_to _ _ _ _ _ _ _ c.in_ok-lower_val.ensures.sample c.if-not-take_if.ensures c.in_ok-sample.ensures.sample
