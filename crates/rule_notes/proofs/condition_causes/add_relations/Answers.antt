use Rattle.rule_notes.specs.Inner.CauseLists.{relation_causes}
use Rattle.rule_notes.proofs.ListedCauses.{grown}
use Rattle.rule_notes.proofs.condition_causes.add_relations.Goals as goal

pub loop-relation-preserved : goal.loop-relation-preserved
loop-relation-preserved c =
    grown relation_causes c.args.relations.now c.loop-relation.relation-index c.relation-item.result c.args.causes.now.items _ _
    c.loop-relation-test.true c.relation-item.is c.loop-relation.invariant c.in_ok-add_relation.ensures
