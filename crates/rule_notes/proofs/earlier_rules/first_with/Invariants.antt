use Rattle.std.proofs.Common.{Option, length}
use Rattle.plural_base.specs.declared.category.PluralCategory.{PluralCategory}
use Rattle.rule_notes.specs.EarlierRules.{HasFirstText}
use Rattle.rule_notes.proofs.earlier_rules.first_with.Given as goal

-- no rule so far has the text
abbrev pub invariant-loop-first : goal.invariant-loop-first
invariant-loop-first l = (category : Option PluralCategory) → HasFirstText l.rest l.text category → HasFirstText l.rules l.text category

abbrev pub decreases-loop-first : goal.decreases-loop-first
decreases-loop-first l = length l.rest
