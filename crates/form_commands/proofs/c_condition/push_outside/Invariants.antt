use Rattle.std.proofs.Common.{codes, map, take}
use Rattle.icu_plurals.specs.RuleViews.{lent_relation}
use Rattle.form_commands.specs.CExpressions.{atom_text}
use Rattle.form_commands.specs.RuleConditions.{outside}
use Rattle.form_commands.specs.Inner.ConditionSteps.{Joins}
use Rattle.form_commands.proofs.c_condition.push_outside.Given as goal

-- that it is outside the ranges so far is appended
abbrev pub invariant-loop-place : goal.invariant-loop-place
invariant-loop-place l =
    let meaning = (lent_relation l.relation).meaning in
    Joins (codes " && ") (map atom_text (map (outside meaning.modulus) (take l.place meaning.ranges))) l.initial.atoms l.atoms
