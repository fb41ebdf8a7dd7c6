use Rattle.std.proofs.Common.{rules}
use Rattle.plural_checker.proofs.ShortChecks.{checked_by}
use Rattle.plural_checker.proofs.number_check.check_by.Goals as goal

pub returns : goal.returns
returns c =
    checked_by c.kept_choice_is_exact.ensures c.args.rules.now c.args.category c.from.result c.args.number.now c.from.ensures.1
    c.from.ensures.0 (search rules) c.category_fault.result c.category_fault.ensures
