use Rattle.std.proofs.lemmas.Result.{err_from_is_err_and}
use Rattle.plural_reference.proofs.plain.PlainLists.{lists_are_samples}
use Rattle.plural_reference.proofs.parser.Parser.leave_samples_out.Goals as goal

pub returns-then-is_before_plain_samples : goal.returns-then-is_before_plain_samples
returns-then-is_before_plain_samples c = lists_are_samples _ (c.is_before_plain_samples.ensures c.if-is_before_plain_samples.true)

pub returns-in_err-samples : goal.returns-in_err-samples
returns-in_err-samples c =
    let p = err_from_is_err_and c.from_residual.result c.from_residual.ensures.1 in rw (p.1, p.2) c.in_err-samples.ensures

pub returns : goal.returns
returns c = let s = c.in_ok-samples.ensures in (s.0, _, s.2)
