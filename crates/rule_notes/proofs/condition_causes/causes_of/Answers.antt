use Rattle.std.proofs.Common.{◌≡◌, List, ◌++◌, ap, sym, subst, ◌∙◌}
use Rattle.rule_notes.specs.ConditionCauses.{AreConditionCauses}
use Rattle.rule_notes.specs.Inner.CauseLists.{condition_causes}
use Rattle.rule_notes.specs.declared.cause.Cause.{Cause}
use Rattle.rule_notes.proofs.ListedCauses.{condition_noted}
use Rattle.rule_notes.proofs.condition_causes.causes_of.Goals as goal

pub returns : goal.returns
returns c =
    let condition = c.args.condition.now in
    let made : c.add_condition.new.causes.items ≡ condition_causes condition =
    c.in_ok-add_condition.ensures ∙ ap (λ (list : List Cause). list ++ condition_causes condition) c.new-causes.ensures.items in
    subst (AreConditionCauses condition) (sym (c.into.ensures ∙ made)) (condition_noted condition)
