use Rattle.std.proofs.Common.{Option, subst, sym}
use Rattle.std.specs.Option.{option_copied}
use Rattle.icu_plurals.specs.declared.provider.rules.reference.ast.Samples.{Samples}
use Rattle.plural_checker.specs.Findings.{AddsFindings}
use Rattle.plural_checker.specs.TextChecks.{IsFoundInSamples}
use Rattle.plural_checker.proofs.Growth.{adds_nothing}
use Rattle.plural_checker.proofs.range_check.check_samples.Goals as goal

pub returns-in_default : goal.returns-in_default
returns-in_default c =
    let report = c.args.report.now in
    subst (λ (samples : Option Samples). AddsFindings (IsFoundInSamples (option_copied c.args.rules) c.args.category samples) report report)
    (sym c.in_default.is) (adds_nothing report)
