use Rattle.std.proofs.Common.{string_bytes, subst}
use Rattle.icu_plurals.specs.FiveRules.{FiveRules}
use Rattle.icu_plurals.specs.RulesJson.{rules_of_json}
use Rattle.serde_json.specs.View.{view}
use Rattle.rules_outline.specs.KeptRules.{key_by}
use Rattle.form_commands.specs.GettextLines.{IsGettextLine}
use Rattle.form_commands.proofs.GettextLemmas.{found_language, one_rules}
use Rattle.form_commands.proofs.run.gettext_of.Goals as goal

pub returns-in_ok-text-in-Ok : goal.returns-in_ok-text-in-Ok
returns-in_ok-text-in-Ok c =
    let line = c.in_ok-text-in-Ok.ensures in
    let answered = rw c.in-Ok.is at c.in_ok-language.ensures in
    let text = string_bytes c.in_ok-text-in-Ok.text in (
      c.in-Ok.language,
      answered,
      (
        text,
        subst (λ (rules : FiveRules). IsGettextLine rules text)
            (one_rules (rules_of_json (view c.in-Ok.language.value.now)) line.0 c.in-Ok.language.rules line.1
            (found_language (view c.args.kept.now.document) c.args.part c.args.locale.now (key_by string_bytes c.args.kept.now.key)
            c.in-Ok.language answered)) line.2,
        c.of.ensures,
      ),
    )
