use Rattle.std.proofs.Common.{refl}
use Rattle.std.proofs.lemmas.Result.{on_ok_weaker}
use Rattle.std.specs.Option.{option_copied}
use Rattle.plural_checker.specs.Findings.{FindsBoth}
use Rattle.plural_checker.specs.TextChecks.{condition_findings, IsFoundInCondition, IsFoundInReading, IsFoundInSamples}
use Rattle.plural_checker.proofs.Growth.{adds_both}
use Rattle.plural_checker.proofs.text_check.check_rule.Goals as goal

pub returns : goal.returns
returns c =
    let rule = c.args.rule.now in
    let category = c.args.category in
    let in_reading = IsFoundInReading category c.args.text.now rule in
    let in_condition = IsFoundInCondition category rule in
    let in_samples = IsFoundInSamples (option_copied c.args.rules) category rule.samples in
    let first = c.check_reading.new.report in
    let second = c.check_condition.new.report in
    let end = c.check_samples.new.report in
    on_ok_weaker c.check_samples.result
    (λ more.
    let both = adds_both in_condition in_samples first second end
    (condition_findings category rule.condition.0, refl, c.in_ok-check_condition.ensures) more in
    adds_both in_reading (FindsBoth in_condition in_samples) c.args.report.now first end c.in_ok-check_reading.ensures both)
    c.check_samples.ensures
