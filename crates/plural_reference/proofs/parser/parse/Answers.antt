use Rattle.std.proofs.lemmas.Result.{err_from_is_err_and}
use Rattle.plural_reference.proofs.reading.ParserSteps.{passes_on}
use Rattle.plural_reference.proofs.rules.Answered.{rule_answers, kept_rule_is, condition_fault, samples_fault}
use Rattle.plural_reference.proofs.parser.parse.Goals as goal

pub returns-in_err-condition : goal.returns-in_err-condition
returns-in_err-condition c =
    let p = err_from_is_err_and c.from_residual.result c.from_residual.ensures.1 in
    rw (p.1, p.2)
    (rule_answers _ _ _ c.new-parser.ensures
    (passes_on _ _ c.in_err-condition.field-0.0 c.in_err-condition.ensures
    (λ kind q. condition_fault _ _ kind q)))

pub returns-in_err-samples : goal.returns-in_err-samples
returns-in_err-samples c =
    let p = err_from_is_err_and c.from_residual-in_err-samples.result c.from_residual-in_err-samples.ensures.1 in
    rw (p.1, p.2)
    (rule_answers _ _ _ c.new-parser.ensures
    (passes_on _ _ c.in_err-samples.field-0.0 c.in_err-samples.ensures
    (λ kind q. samples_fault _ _ _ _ kind c.in_ok-condition.ensures q)))

pub returns : goal.returns
returns c = rule_answers _ _ _ c.new-parser.ensures (kept_rule_is _ _ _ _ c.in_ok-condition.ensures c.in_ok-samples.ensures)
