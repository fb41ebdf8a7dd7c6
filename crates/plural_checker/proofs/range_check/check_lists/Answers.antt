use Rattle.std.proofs.lemmas.Result.{on_ok_weaker}
use Rattle.std.specs.Option.{option_copied}
use Rattle.plural_checker.specs.TextChecks.{IsFoundInList}
use Rattle.plural_checker.specs.declared.fault.SampleType.TheVariants.{Integer, Decimal}
use Rattle.plural_checker.proofs.Growth.{adds_both}
use Rattle.plural_checker.proofs.range_check.check_lists.Goals as goal

pub returns : goal.returns
returns c =
    let rules = option_copied c.args.rules in
    let category = c.args.category in
    let integers = IsFoundInList rules category Integer c.args.lists.now.integer in
    let decimals = IsFoundInList rules category Decimal c.args.lists.now.decimal in
    on_ok_weaker c.check_list-2.result
    (λ more. adds_both integers decimals c.args.report.now c.check_list.new.report c.check_list-2.new.report c.in_ok-check_list.ensures more)
    c.check_list-2.ensures
