use Rattle.std.proofs.Common.{sym, subst}
use Rattle.serde_json.specs.View.{members_view, view}
use Rattle.plural_base.specs.FiveRules.{FiveRules}
use Rattle.plural_base.specs.Inner.CategoryValues.{rules_at}
use Rattle.plural_base.specs.Inner.JsonSteps.{Passes}
use Rattle.plural_base.specs.Json.{Stands}
use Rattle.plural_base.proofs.reading.ValuesRead.{rules_found}
use Rattle.plural_base.proofs.json.checks.check_rules.Goals as goal

pub returns-in-Some-clause-answers : goal.returns-in-Some-clause-answers
returns-in-Some-clause-answers c =
    let values = c.values_by_category.ensures in
    let passes = subst (λ five. Passes c.check_values.result (rules_at five)) values c.check_values.ensures.answers in
    subst (λ (s : Stands FiveRules). Passes c.check_values.result s)
    (sym (rules_found (view c.args.value.now) (members_view c.in-Some.members.now.entries) c.in-Some.ensures))
    passes
