use Rattle.std.proofs.Common.{◌≡◌, Ok, string_bytes}
use Rattle.std.proofs.lemmas.Result.{IfOk-weaker}
use Rattle.icu_plurals.specs.FiveRules.{FiveRules, rules_of}
use Rattle.icu_plurals.specs.RulesJson.{rules_of_json}
use Rattle.serde_json.specs.View.{view}
use Rattle.form_commands.specs.GettextLines.{IsGettextLine}
use Rattle.form_commands.proofs.gettext.gettext_line.Goals as goal

pub returns-in-Ok : goal.returns-in-Ok
returns-in-Ok c =
    let rules = rules_of c.in-Ok.rules in
    IfOk-weaker c.line_of.result (λ s. IsGettextLine rules (string_bytes s))
    (λ s. (r : FiveRules) × (rules_of_json (view c.args.value.now) ≡ Ok r) × IsGettextLine r (string_bytes s))
    (λ s line. (rules, c.in-Ok.ensures.answers, line)) c.line_of.ensures
