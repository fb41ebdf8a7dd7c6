use Rattle.std.proofs.Common.{◌≡◌, ◌++◌, take, flat_map}
use Rattle.rule_notes.specs.Inner.CauseLists.{relation_causes}
use Rattle.rule_notes.proofs.condition_causes.add_relations.Given as goal

-- what the relations so far add
abbrev pub invariant-loop-relation : goal.invariant-loop-relation
invariant-loop-relation l = l.causes.items ≡ l.initial.causes.items ++ flat_map relation_causes (take l.relation-index l.relations)
