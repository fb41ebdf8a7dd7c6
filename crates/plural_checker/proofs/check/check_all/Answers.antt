use Rattle.std.proofs.Common.{ap}
use Rattle.std.specs.Option.{option_copied}
use Rattle.plural_checker.specs.Inner.TextReadings.{six}
use Rattle.plural_checker.specs.TextChecks.{IsFoundInSix}
use Rattle.plural_checker.specs.declared.report.Report.{Report}
use Rattle.plural_checker.proofs.Growth.{reported_if_ok}
use Rattle.plural_checker.proofs.check.check_all.Goals as goal

pub returns : goal.returns
returns c =
    let rules = option_copied c.args.rules in
    let texts = six c.args.five.now c.args.other.now in
    rw c.and.ensures
    (reported_if_ok c.add_all.result (IsFoundInSix rules texts) c.new-report.result c.add_all.new.report
    (ap (λ (r : Report). r.faults) c.new-report.ensures) (ap (λ (r : Report). r.numbers) c.new-report.ensures) c.add_all.ensures)
