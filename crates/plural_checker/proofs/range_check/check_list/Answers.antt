use Rattle.std.proofs.Common.{Option, subst, sym}
use Rattle.std.specs.Option.{option_copied}
use Rattle.icu_plurals.specs.declared.provider.rules.reference.ast.SampleList.{SampleList}
use Rattle.plural_checker.specs.Findings.{AddsFindings}
use Rattle.plural_checker.specs.TextChecks.{IsFoundInList}
use Rattle.plural_checker.proofs.Growth.{adds_nothing}
use Rattle.plural_checker.proofs.range_check.check_list.Goals as goal

pub returns-in_default : goal.returns-in_default
returns-in_default c =
    let report = c.args.report.now in
    let rules = option_copied c.args.rules in
    subst (λ (list : Option SampleList). AddsFindings (IsFoundInList rules c.args.category c.args.sample_type list) report report)
    (sym c.in_default.is) (adds_nothing report)
