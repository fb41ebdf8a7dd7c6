use Rattle.std.proofs.Common.{Some, subst, sym}
use Rattle.std.specs.Option.{option_copied}
use Rattle.plural_checker.specs.NumberChecks.{IsCheckedRange}
use Rattle.plural_checker.specs.declared.fault.SampleFault.TheVariants.{Number}
use Rattle.plural_checker.proofs.ShortChecks.{single_right, single_wrong}
use Rattle.plural_checker.proofs.range_check.check_range.Goals as goal

pub returns-in-Right : goal.returns-in-Right
returns-in-Right c =
    single_right (option_copied c.args.rules) c.args.category c.args.range.now c.in-Right.ensures.0 c.in-Right.ensures.1

pub returns-in_ok-text-in-Wrong : goal.returns-in_ok-text-in-Wrong
returns-in_ok-text-in-Wrong c =
    let rules = option_copied c.args.rules in
    subst (λ text. IsCheckedRange rules c.args.category c.args.range.now (Some (Number text c.in-Wrong.fault)) 1)
    (sym c.in_ok-text-in-Wrong.ensures)
    (single_wrong rules c.args.category c.args.range.now c.in-Wrong.fault c.in-Wrong.ensures.0 c.in-Wrong.ensures.1)
