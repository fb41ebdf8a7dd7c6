use Rattle.std.proofs.Common.{None, Some}
use Rattle.plural_checker.proofs.ShortChecks.{short_checked}
use Rattle.plural_checker.proofs.short_number.verdict_under.Goals as goal

pub returns-in-Some : goal.returns-in-Some
returns-in-Some c =
    short_checked c.kept_choice_is_exact.ensures c.args.rules.now c.args.category c.args.operands (Some c.in-Some.fault) c.in-Some.ensures

pub returns-in-None : goal.returns-in-None
returns-in-None c =
    short_checked c.kept_choice_is_exact.ensures c.args.rules.now c.args.category c.args.operands None c.in-None.ensures
