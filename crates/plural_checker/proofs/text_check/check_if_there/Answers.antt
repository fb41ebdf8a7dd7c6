use Rattle.std.proofs.Common.{List, Option, subst, sym, ℕ}
use Rattle.std.specs.Option.{option_copied}
use Rattle.plural_checker.specs.Findings.{AddsFindings}
use Rattle.plural_checker.specs.TextChecks.{IsFoundIn}
use Rattle.plural_checker.proofs.Growth.{adds_nothing}
use Rattle.plural_checker.proofs.text_check.check_if_there.Goals as goal

pub returns-in-None : goal.returns-in-None
returns-in-None c =
    let report = c.args.report.now in
    subst (λ (text : Option (List ℕ)). AddsFindings (IsFoundIn (option_copied c.args.rules) c.args.category text) report report)
    (sym c.in-None.is) (adds_nothing report)
