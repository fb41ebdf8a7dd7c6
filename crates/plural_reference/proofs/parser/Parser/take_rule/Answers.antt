use Rattle.std.proofs.lemmas.Result.{err_from_is_err_and}
use Rattle.plural_reference.proofs.reading.ParserSteps.{passes_on}
use Rattle.plural_reference.proofs.rules.FaultBytes.{rule_read, condition_place, samples_place}
use Rattle.plural_reference.proofs.parser.Parser.take_rule.Goals as goal

pub returns-in_err-condition : goal.returns-in_err-condition
returns-in_err-condition c =
    let p = err_from_is_err_and c.from_residual.result c.from_residual.ensures.1 in
    rw (p.1, p.2)
    (passes_on _ _ c.in_err-condition.field-0.0 c.in_err-condition.ensures
    (λ kind q. condition_place _ _ kind q))

pub returns-in_err-leave_samples_out : goal.returns-in_err-leave_samples_out
returns-in_err-leave_samples_out c =
    let p = err_from_is_err_and c.from_residual-in_err-leave_samples_out.result c.from_residual-in_err-leave_samples_out.ensures.1 in
    rw (p.1, p.2)
    (passes_on _ _ c.in_err-leave_samples_out.field-0.0 c.in_err-leave_samples_out.ensures
    (λ kind q. samples_place _ _ _ _ kind c.in_ok-condition.ensures q))

pub returns : goal.returns
returns c = rule_read _ _ _ c.in_ok-condition.ensures c.in_ok-leave_samples_out.ensures
