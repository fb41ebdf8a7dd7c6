use Rattle.std.proofs.lemmas.Result.{err_from_is_err_and}
use Rattle.plural_base.proofs.encoding.RuleItemFaults.{then_iff}
use Rattle.plural_base.proofs.rules.bytes.keyed.put_rules.Goals as goal

pub returns-in_err-put-3-clause-fault : goal.returns-in_err-put-3-clause-fault
returns-in_err-put-3-clause-fault c =
    let p = err_from_is_err_and c.from_residual-in_err-put-3.result c.from_residual-in_err-put-3.ensures.1 in
    rw (p.1, p.2) (λ fault. then_iff (c.in_ok-put.ensures.fault fault) (then_iff (c.in_ok-put-2.ensures.fault fault) (c.in_err-put-3.ensures.fault fault)))

pub returns-in_err-put-4-clause-fault : goal.returns-in_err-put-4-clause-fault
returns-in_err-put-4-clause-fault c =
    let p = err_from_is_err_and c.from_residual-in_err-put-4.result c.from_residual-in_err-put-4.ensures.1 in
    rw (p.1, p.2) (λ fault. then_iff (c.in_ok-put.ensures.fault fault) (then_iff (c.in_ok-put-2.ensures.fault fault) (then_iff (c.in_ok-put-3.ensures.fault fault) (c.in_err-put-4.ensures.fault fault))))

pub returns-in_err-put-5-clause-fault : goal.returns-in_err-put-5-clause-fault
returns-in_err-put-5-clause-fault c =
    let p = err_from_is_err_and c.from_residual-in_err-put-5.result c.from_residual-in_err-put-5.ensures.1 in
    rw (p.1, p.2) (λ fault. then_iff (c.in_ok-put.ensures.fault fault) (then_iff (c.in_ok-put-2.ensures.fault fault) (then_iff (c.in_ok-put-3.ensures.fault fault) (then_iff (c.in_ok-put-4.ensures.fault fault) (c.in_err-put-5.ensures.fault fault)))))
