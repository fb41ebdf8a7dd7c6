use Rattle.rule_notes.proofs.ListedCauses.{condition_noted}
use Rattle.rule_notes.proofs.NoteGrowth.{adds_both, adds_to_nothing}
use Rattle.rule_notes.specs.ConditionCauses.{AreConditionCauses, IsNotedIf, NotesBoth}
use Rattle.rule_notes.specs.EarlierRules.{AreAlikeCauses, IsTakenByEarlier}
use Rattle.rule_notes.specs.Inner.CauseLists.{condition_causes}
use Rattle.rule_notes.specs.RuleNotes.{AreRuleCauses}
use Rattle.rule_notes.specs.declared.cause.Cause.TheVariants.{Taken}
use Rattle.rule_notes.proofs.notes.rule_causes.Goals as goal

pub returns : goal.returns
returns c =
    let earlier = c.args.earlier.now in
    let rule = c.args.rule.now in
    let by_itself = AreConditionCauses rule.condition in
    let alike = AreAlikeCauses earlier rule in
    let taken = IsNotedIf (IsTakenByEarlier earlier rule) Taken in
    let none = c.new-causes.result.items in
    let first = c.add_condition.new.causes.items in
    let second = c.add_alike.new.causes.items in
    let end = c.add_taken.new.causes.items in
    let beside = adds_both alike taken first second end c.in_ok-add_alike.ensures c.in_ok-add_taken.ensures in
    let all = adds_both by_itself (NotesBoth alike taken) none first end
    (condition_causes rule.condition, condition_noted rule.condition, c.in_ok-add_condition.ensures) beside in
    adds_to_nothing (AreRuleCauses earlier rule) none end c.new-causes.ensures.items all
