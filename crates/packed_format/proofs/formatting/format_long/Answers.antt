use Rattle.std.proofs.Common.{[], refl}
use Rattle.std.proofs.lemmas.Result.{err_from_is_err_and}
use Rattle.message_format.specs.FormatSteps.{both}
use Rattle.packed_format.proofs.Said.{fault_said}
use Rattle.packed_format.proofs.formatting.format_long.Goals as goal

pub returns-in_err-say_by : goal.returns-in_err-say_by
returns-in_err-say_by g c =
    let p = err_from_is_err_and c.from_residual.result c.from_residual.ensures.1 in
    rw (p.1, p.2)
    (fault_said c.one_outcome.ensures (g.A.Arguments.arguments c.args.arguments.now)
    (both (g.R.TextRules.rules c.args.cardinal.now) (g.R.TextRules.rules c.args.ordinal.now)) c.args.pattern.now
    c.in_err-say_by.field-0.0 (c.in_err-say_by.ensures [] refl))
