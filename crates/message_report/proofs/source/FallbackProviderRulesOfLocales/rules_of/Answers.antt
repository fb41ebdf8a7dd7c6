use Rattle.icu_plurals.specs.FiveRules.{rules_of}
use Rattle.std.proofs.Common.{option_map}
use Rattle.icu_plurals.specs.declared.PluralRuleType.TheVariants.{Cardinal, Ordinal}
use Rattle.message_report.proofs.KnownRules.{known_rules, no_rules}
use Rattle.message_report.proofs.source.FallbackProviderRulesOfLocales.rules_of.Goals as goal

pub returns-in-Ok : goal.returns-in-Ok
returns-in-Ok g c =
    let provider = c.args.self.now.provider.now in
    let locales = c.args.self.now.locales.now in
    rw c.in-Cardinal.is
    (known_rules (g.P.PluralsProvider.cardinal provider) (g.P.PluralsProvider.ordinal provider) (g.L.RuleTexts.texts locales)
    (g.L.Locales.keys locales)
    (g.L.Locales.parent locales) c.args.locale.now Cardinal c.in-Ok.loaded.key.now (rules_of c.in-Ok.loaded.value)
    (option_map rules_of c.known.result) c.in-Ok.ensures.0 c.in-Ok.ensures.1 c.known.ensures)

pub returns-in-Err : goal.returns-in-Err
returns-in-Err g c =
    let provider = c.args.self.now.provider.now in
    let locales = c.args.self.now.locales.now in
    rw c.in-Cardinal.is
    (no_rules (g.P.PluralsProvider.cardinal provider) (g.P.PluralsProvider.ordinal provider) (g.L.RuleTexts.texts locales)
    (g.L.Locales.keys locales)
    (g.L.Locales.parent locales) c.args.locale.now Cardinal c.in-Err.field-0 c.in-Err.ensures)

pub returns-in-Ok-load_ordinal : goal.returns-in-Ok-load_ordinal
returns-in-Ok-load_ordinal g c =
    let provider = c.args.self.now.provider.now in
    let locales = c.args.self.now.locales.now in
    rw c.in-Ordinal.is
    (known_rules (g.P.PluralsProvider.cardinal provider) (g.P.PluralsProvider.ordinal provider) (g.L.RuleTexts.texts locales)
    (g.L.Locales.keys locales)
    (g.L.Locales.parent locales) c.args.locale.now Ordinal c.in-Ok-load_ordinal.loaded.key.now (rules_of c.in-Ok-load_ordinal.loaded.value)
    (option_map rules_of c.known-in-Ok-load_ordinal.result) c.in-Ok-load_ordinal.ensures.0 c.in-Ok-load_ordinal.ensures.1
    c.known-in-Ok-load_ordinal.ensures)

pub returns-in-Err-load_ordinal : goal.returns-in-Err-load_ordinal
returns-in-Err-load_ordinal g c =
    let provider = c.args.self.now.provider.now in
    let locales = c.args.self.now.locales.now in
    rw c.in-Ordinal.is
    (no_rules (g.P.PluralsProvider.cardinal provider) (g.P.PluralsProvider.ordinal provider) (g.L.RuleTexts.texts locales)
    (g.L.Locales.keys locales)
    (g.L.Locales.parent locales) c.args.locale.now Ordinal c.in-Err-load_ordinal.field-0 c.in-Err-load_ordinal.ensures)
