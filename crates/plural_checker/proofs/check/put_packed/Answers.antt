use Rattle.std.proofs.Common.{None}
use Rattle.std.proofs.lemmas.Result.{err_from_is_err_and}
use Rattle.std.specs.Prelude.{IsSomeAnd}
use Rattle.plural_checker.specs.Inner.TextReadings.{HasNoRule}
use Rattle.plural_checker.specs.TextChecks.{AreRulesIfRead}
use Rattle.plural_checker.proofs.TextsRead.{all_rules, if_refused, no_few, no_many, no_one, no_two, no_zero}
use Rattle.plural_checker.proofs.check.put_packed.Goals as goal

pub returns-clause-ok : goal.returns-clause-ok
returns-clause-ok c =
    all_rules c.args.five.now _ c.in_ok-put_rule.ensures.ok _ c.in_ok-put_rule-2.ensures.ok _ c.in_ok-put_rule-3.ensures.ok
    _ c.in_ok-put_rule-4.ensures.ok _ c.in_ok-put_rule-5.ensures.ok

pub returns-in_err-put_rule-clause-refused : goal.returns-in_err-put_rule-clause-refused
returns-in_err-put_rule-clause-refused c =
    let p = err_from_is_err_and c.from_residual.result c.from_residual.ensures.1 in
    rw (p.1, p.2)
    (if_refused c.in_err-put_rule.field-0.0 (IsSomeAnd c.args.five.now.zero HasNoRule) (AreRulesIfRead c.args.five.now None)
    (no_zero c.args.five.now) c.in_err-put_rule.ensures.refused)

pub returns-in_err-put_rule-2-clause-refused : goal.returns-in_err-put_rule-2-clause-refused
returns-in_err-put_rule-2-clause-refused c =
    let p = err_from_is_err_and c.from_residual-in_err-put_rule-2.result c.from_residual-in_err-put_rule-2.ensures.1 in
    rw (p.1, p.2)
    (if_refused c.in_err-put_rule-2.field-0.0 (IsSomeAnd c.args.five.now.one HasNoRule) (AreRulesIfRead c.args.five.now None)
    (no_one c.args.five.now _ c.in_ok-put_rule.ensures.ok) c.in_err-put_rule-2.ensures.refused)

pub returns-in_err-put_rule-3-clause-refused : goal.returns-in_err-put_rule-3-clause-refused
returns-in_err-put_rule-3-clause-refused c =
    let p = err_from_is_err_and c.from_residual-in_err-put_rule-3.result c.from_residual-in_err-put_rule-3.ensures.1 in
    rw (p.1, p.2)
    (if_refused c.in_err-put_rule-3.field-0.0 (IsSomeAnd c.args.five.now.two HasNoRule) (AreRulesIfRead c.args.five.now None)
    (no_two c.args.five.now _ c.in_ok-put_rule.ensures.ok _ c.in_ok-put_rule-2.ensures.ok) c.in_err-put_rule-3.ensures.refused)

pub returns-in_err-put_rule-4-clause-refused : goal.returns-in_err-put_rule-4-clause-refused
returns-in_err-put_rule-4-clause-refused c =
    let p = err_from_is_err_and c.from_residual-in_err-put_rule-4.result c.from_residual-in_err-put_rule-4.ensures.1 in
    rw (p.1, p.2)
    (if_refused c.in_err-put_rule-4.field-0.0 (IsSomeAnd c.args.five.now.few HasNoRule) (AreRulesIfRead c.args.five.now None)
    (no_few c.args.five.now _ c.in_ok-put_rule.ensures.ok _ c.in_ok-put_rule-2.ensures.ok _ c.in_ok-put_rule-3.ensures.ok) c.in_err-put_rule-4.ensures.refused)

pub returns-in_err-put_rule-5-clause-refused : goal.returns-in_err-put_rule-5-clause-refused
returns-in_err-put_rule-5-clause-refused c =
    let p = err_from_is_err_and c.from_residual-in_err-put_rule-5.result c.from_residual-in_err-put_rule-5.ensures.1 in
    rw (p.1, p.2)
    (if_refused c.in_err-put_rule-5.field-0.0 (IsSomeAnd c.args.five.now.many HasNoRule) (AreRulesIfRead c.args.five.now None)
    (no_many c.args.five.now _ c.in_ok-put_rule.ensures.ok _ c.in_ok-put_rule-2.ensures.ok
    _ c.in_ok-put_rule-3.ensures.ok _ c.in_ok-put_rule-4.ensures.ok) c.in_err-put_rule-5.ensures.refused)
