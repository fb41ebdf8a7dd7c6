use Rattle.std.proofs.Common.{◌≡◌, ◌++◌, take, flat_map}
use Rattle.rule_notes.specs.Inner.CauseLists.{group_causes}
use Rattle.rule_notes.proofs.condition_causes.add_condition.Given as goal

-- what the groups so far add
abbrev pub invariant-loop-group : goal.invariant-loop-group
invariant-loop-group l = l.causes.items ≡ l.initial.causes.items ++ flat_map group_causes (take l.group-index l.condition.0)
