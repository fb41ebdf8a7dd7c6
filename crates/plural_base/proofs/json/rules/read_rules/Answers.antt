use Rattle.std.proofs.Common.{List, ℕ, Option, sym, subst, ◌∙◌}
use Rattle.std.specs.Prelude.{IfOk}
use Rattle.serde_json.specs.View.{members_view, view}
use Rattle.plural_base.specs.declared.five.Five.{Five}
use Rattle.plural_base.specs.FiveRules.{FiveRules, rules_of}
use Rattle.plural_base.specs.Json.{GivesMeaning, Stands}
use Rattle.plural_base.specs.RuleTexts.{AreRulesOf}
use Rattle.plural_base.proofs.reading.ValuesRead.{rules_found, texts_found}
use Rattle.plural_base.proofs.json.rules.read_rules.Goals as goal

pub returns-in-Some-clause-answers : goal.returns-in-Some-clause-answers
returns-in-Some-clause-answers c =
    subst (λ (s : Stands FiveRules). GivesMeaning rules_of c.read_members.result s)
    (sym (rules_found (view c.args.value.now) (members_view c.in-Some.members.now.entries) c.in-Some.ensures))
    c.read_members.ensures.answers

pub returns-in-Some-clause-read : goal.returns-in-Some-clause-read
returns-in-Some-clause-read c =
    subst (λ (texts : Five (Option (List ℕ))). IfOk c.read_members.result (λ rules. AreRulesOf texts (rules_of rules)))
    (sym (texts_found (view c.args.value.now) (members_view c.in-Some.members.now.entries) c.in-Some.ensures))
    c.read_members.ensures.read

pub returns-in-Some-clause-no_text : goal.returns-in-Some-clause-no_text
returns-in-Some-clause-no_text c = λ none.
    c.read_members.ensures.no_text
    (sym (texts_found (view c.args.value.now) (members_view c.in-Some.members.now.entries) c.in-Some.ensures) ∙ none)
