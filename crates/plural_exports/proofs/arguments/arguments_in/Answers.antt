use Rattle.std.proofs.Common.{◌-◌, arith, List, length, take, drop, refl, subst, sym}
use Rattle.std.proofs.lemmas.Result.{err_from_is_err_and}
use Rattle.message_format.specs.declared.arguments.Argument as arguments
use Rattle.message_format.specs.FormatArguments.{named_value_view, named_values_view}
use Rattle.plural_exports.proofs.ReadArguments.{IsReadBefore, begins, headed, goes_on, ends, runs_out, stops}
use Rattle.plural_exports.proofs.Steps.{passed_on}
use Rattle.plural_exports.proofs.arguments.arguments_in.Goals as goal

pub loop-left-init : goal.loop-left-init
loop-left-init c =
    subst (λ (items : List arguments.Argument). IsReadBefore c.args.given.now (named_values_view items) c.args.given.now)
    (sym c.new-arguments.ensures.items) (begins c.args.given.now)

pub returns-in_err-argument : goal.returns-in_err-argument
returns-in_err-argument c =
    let e = c.in_err-argument.field-0.0 in
    let left = c.loop-left.left.now in
    rw (passed_on c.from_residual.result e (err_from_is_err_and c.from_residual.result c.from_residual.ensures.1))
    (stops c.args.given.now (named_values_view c.loop-left.arguments.items) left (take (length left - 1) (drop 1 left)) _ e
    (headed left _ (length left) c.in-len1-up.len_at_least refl) c.in_err-argument.ensures c.loop-left.invariant)

pub loop-left-preserved : goal.loop-left-preserved
loop-left-preserved c =
    let left = c.loop-left.left.now in
    goes_on c.args.given.now c.loop-left.arguments.items c.push.new.self.items left (take (length left - 1) (drop 1 left)) _
    c.in_ok-argument.argument (headed left _ (length left) c.in-len1-up.len_at_least refl) c.in_ok-argument.ensures
    (rw c.in-Ok.is at c.push.ensures.items) c.loop-left.invariant

pub returns-in-Err : goal.returns-in-Err
returns-in-Err c =
    let left = c.loop-left.left.now in
    runs_out c.args.given.now (named_values_view c.loop-left.arguments.items) left (take (length left - 1) (drop 1 left)) _
    (named_value_view c.in_ok-argument.argument) (headed left _ (length left) c.in-len1-up.len_at_least refl) c.in_ok-argument.ensures
    c.loop-left.invariant

pub returns : goal.returns
returns c =
    ends c.args.given.now (named_values_view c.loop-left.arguments.items) c.loop-left.left.now (omega (arith, c.in_default.len_below))
    c.loop-left.invariant
