use Rattle.std.proofs.Common.{List, subst}
use Rattle.std.proofs.lemmas.List.{take_all}
use Rattle.std.specs.Option.{option_copied}
use Rattle.icu_plurals.specs.declared.provider.rules.reference.ast.SampleRange.{SampleRange}
use Rattle.plural_checker.specs.Findings.{AddsFindings, EachFinds}
use Rattle.plural_checker.specs.TextChecks.{IsFoundInRange}
use Rattle.plural_checker.proofs.Growth.{adds_nothing, adds_one_more}
use Rattle.plural_checker.proofs.range_check.check_ranges.Goals as goal

pub loop-range-init : goal.loop-range-init
loop-range-init c = adds_nothing c.args.report.now

pub loop-range-preserved : goal.loop-range-preserved
loop-range-preserved c =
    adds_one_more (IsFoundInRange (option_copied c.args.rules) c.args.category c.args.sample_type) c.args.ranges.now
    c.loop-range.range-index c.range-item.result c.args.report.now c.loop-range.report c.add_range.new.report
    c.in_ok-add_range.ensures.0 c.loop-range-test.true c.range-item.is c.loop-range.invariant
    c.in_ok-add_range.ensures.1 c.in_ok-add_range.ensures.2

pub returns : goal.returns
returns c =
    let Finds = IsFoundInRange (option_copied c.args.rules) c.args.category c.args.sample_type in
    subst (λ (ranges : List SampleRange). AddsFindings (EachFinds Finds ranges) c.args.report.now c.loop-range.report)
    (take_all c.loop-range.range-index c.args.ranges.now c.loop-range-test.false) c.loop-range.invariant
