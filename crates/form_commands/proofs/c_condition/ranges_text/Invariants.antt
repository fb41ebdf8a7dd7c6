use Rattle.std.proofs.Common.{codes, map, take}
use Rattle.icu_plurals.specs.RuleViews.{lent_relation}
use Rattle.form_commands.specs.CExpressions.{and_text, comparison_text}
use Rattle.form_commands.specs.RuleConditions.{inside}
use Rattle.form_commands.specs.Inner.ConditionSteps.{AreJoined}
use Rattle.form_commands.proofs.c_condition.ranges_text.Given as goal

-- the ranges so far are joined
abbrev pub invariant-loop-place : goal.invariant-loop-place
invariant-loop-place l =
    let meaning = (lent_relation l.relation).meaning in
    AreJoined (codes " || ") (map (λ all. and_text (map comparison_text all)) (map (inside meaning.modulus) (take l.place meaning.ranges)))
    l.texts
