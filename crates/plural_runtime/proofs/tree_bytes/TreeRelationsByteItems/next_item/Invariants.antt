use Rattle.std.proofs.Common.{◌≡◌, length}
use Rattle.plural_runtime.specs.Inner.RuleViews.{relations_left}
use Rattle.plural_runtime.proofs.tree_bytes.TreeRelationsByteItems.next_item.Given as goal

-- An and-condition without remaining relations is skipped.
abbrev pub invariant-groups : goal.invariant-groups
invariant-groups l = relations_left l.self ≡ relations_left l.fn.self

abbrev pub decreases-groups : goal.decreases-groups
decreases-groups l = length l.self.others.now
