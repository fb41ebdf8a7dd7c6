use Rattle.std.proofs.lemmas.Result.{err_from_is_err_and}
use Rattle.plural_reference.proofs.reading.ParserSteps.{passes_on}
use Rattle.plural_reference.proofs.rules.Answered.{condition_fault, samples_fault, without_samples_answers, without_samples_refuses}
use Rattle.plural_reference.proofs.parser.read_relations.Goals as goal

pub returns-in_err-relations : goal.returns-in_err-relations
returns-in_err-relations g c =
    let p = err_from_is_err_and c.from_residual.result c.from_residual.ensures.1 in
    rw (p.1, p.2)
    (without_samples_refuses _ _ _ c.new-parser.ensures
    (passes_on _ _ c.in_err-relations.field-0.0 c.in_err-relations.ensures
    (λ kind q. condition_fault _ _ kind q)))

pub returns-in_err-leave_samples_out : goal.returns-in_err-leave_samples_out
returns-in_err-leave_samples_out g c =
    let p = err_from_is_err_and c.from_residual-in_err-leave_samples_out.result c.from_residual-in_err-leave_samples_out.ensures.1 in
    let r = c.in_ok-relations.ensures in
    rw (p.1, p.2)
    (without_samples_refuses _ _ _ c.new-parser.ensures
    (passes_on _ _ c.in_err-leave_samples_out.field-0.0 c.in_err-leave_samples_out.ensures
    (λ kind q. samples_fault _ _ _ _ kind r.2 q)))

pub returns : goal.returns
returns g c =
    let r = c.in_ok-relations.ensures in
    let s = c.in_ok-leave_samples_out.ensures in
    (r.0, r.1, without_samples_answers _ _ _ s.1 (record { condition = _; samples = s.0 }) c.new-parser.ensures r.2 s.2)
