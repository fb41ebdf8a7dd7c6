use Rattle.std.proofs.Common.{ap, ◌∙◌}
use Rattle.std.specs.Option.{option_copied}
use Rattle.plural_fallback.specs.declared.locales.Part.{Part}
use Rattle.message_report.proofs.KnownRules.{first_text, no_text}
use Rattle.message_report.proofs.source.FallbackProviderRulesOfLocales.text_of.Goals as goal

pub returns-in-Ok : goal.returns-in-Ok
returns-in-Ok g c =
    let provider = c.args.self.now.provider.now in
    let locales = c.args.self.now.locales.now in
    first_text (g.P.PluralsProvider.cardinal provider) (g.P.PluralsProvider.ordinal provider) (g.L.RuleTexts.texts locales)
    (g.L.Locales.keys locales)
    (g.L.Locales.parent locales) c.args.locale.now c.args.rule_type c.args.category c.in-Ok.key.now (option_copied c.rule_text.result)
    (rw c.part_of-part.ensures at c.in-Ok.ensures.ok)
    (c.rule_text.ensures ∙ ap (λ (part : Part). g.L.RuleTexts.texts locales part c.in-Ok.key.now c.args.category) c.part_of-part.ensures)

pub returns-in-Err : goal.returns-in-Err
returns-in-Err g c =
    let provider = c.args.self.now.provider.now in
    let locales = c.args.self.now.locales.now in
    no_text (g.P.PluralsProvider.cardinal provider) (g.P.PluralsProvider.ordinal provider) (g.L.RuleTexts.texts locales)
    (g.L.Locales.keys locales)
    (g.L.Locales.parent locales) c.args.locale.now c.args.rule_type c.args.category c.in-Err.field-0
    (rw c.part_of-part.ensures at c.in-Err.ensures.err)
