use Rattle.std.proofs.Common.{List, subst}
use Rattle.std.specs.Option.{option_copied}
use Rattle.plural_base.specs.declared.category.PluralCategory.TheVariants.{Zero}
use Rattle.rule_notes.specs.RuleNotes.{AddsRule}
use Rattle.rule_notes.specs.declared.category_rule.CategoryRule.{CategoryRule}
use Rattle.rule_notes.proofs.category_rule.rules_of.Goals as goal

pub returns : goal.returns
returns c = (
  c.add_rule.new.rules.items,
  c.add_rule-2.new.rules.items,
  c.add_rule-3.new.rules.items,
  c.add_rule-4.new.rules.items,
  subst (λ (none : List CategoryRule). AddsRule Zero (option_copied c.args.texts.now.zero) none c.add_rule.new.rules.items)
      c.new-rules.ensures.items c.in_ok-add_rule.ensures,
  c.in_ok-add_rule-2.ensures,
  c.in_ok-add_rule-3.ensures,
  c.in_ok-add_rule-4.ensures,
  c.in_ok-add_rule-5.ensures,
)
