use Rattle.std.proofs.Common.{Option, subst, sym}
use Rattle.std.proofs.lemmas.Result.{IfOk-weaker}
use Rattle.std.specs.Option.{option_copied}
use Rattle.icu_plurals.specs.FiveRules.{FiveRules}
use Rattle.plural_checker.specs.Inner.TextReadings.{six}
use Rattle.plural_checker.specs.TextChecks.{AreFindingsOf, AreFindingsUnder, AreRulesIfRead}
use Rattle.plural_checker.proofs.check.check_six.Goals as goal

pub returns-in-Ok : goal.returns-in-Ok
returns-in-Ok c =
    let texts = six c.args.five.now c.args.other.now in
    let rules = option_copied c.as_ref.result in
    IfOk-weaker c.check_all-report.result (λ report. AreFindingsUnder rules texts report) (λ report. AreFindingsOf texts report)
    (λ report found. (
      rules,
      subst (λ (these : Option FiveRules). AreRulesIfRead texts.five these) (sym c.as_ref.ensures.value) c.in-Ok.ensures,
      found,
    ))
    c.check_all-report.ensures
