use Rattle.std.proofs.Common.{◌≡◌, ◌++◌, take, flat_map}
use Rattle.rule_notes.specs.Inner.CauseLists.{item_causes}
use Rattle.rule_notes.proofs.condition_causes.add_items.Given as goal

-- what the items so far add
abbrev pub invariant-loop-item : goal.invariant-loop-item
invariant-loop-item l = l.causes.items ≡ l.initial.causes.items ++ flat_map item_causes (take l.item-index l.items)
