use Rattle.std.proofs.Common.{None}
use Rattle.std.proofs.lemmas.Result.{err_from_is_err_and}
use Rattle.plural_reference.proofs.reading.ParserSteps.{passes_on}
use Rattle.plural_reference.proofs.rules.WholeRules.{condition_refused, rule_if_at_end, samples_refused}
use Rattle.plural_reference.proofs.parser.Parser.takes_a_rule.Goals as goal

pub returns-in_err-condition : goal.returns-in_err-condition
returns-in_err-condition c =
    let p = err_from_is_err_and c.from_residual.result c.from_residual.ensures.1 in
    rw (p.1, p.2)
    (passes_on _ _ c.in_err-condition.field-0.0 c.in_err-condition.ensures (λ kind q. condition_refused _ _ kind q))

pub returns-in_err-samples : goal.returns-in_err-samples
returns-in_err-samples c =
    let p = err_from_is_err_and c.from_residual-in_err-samples.result c.from_residual-in_err-samples.ensures.1 in
    rw (p.1, p.2)
    (passes_on _ _ c.in_err-samples.field-0.0 c.in_err-samples.ensures
    (λ kind q. samples_refused _ _ _ _ kind c.in_ok-condition.ensures q))

pub returns : goal.returns
returns c = rule_if_at_end _ _ _ _ None c.is_at_end.result c.in_ok-condition.ensures c.in_ok-samples.ensures c.is_at_end.ensures
