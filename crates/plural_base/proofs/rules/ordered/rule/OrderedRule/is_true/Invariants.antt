use Rattle.std.proofs.Common.{◌≡◌, drop, map}
use Rattle.plural_runtime.specs.PackedTruth.{packed_truth}
use Rattle.plural_base.specs.Inner.OrderedRules.{told_at}
use Rattle.plural_base.proofs.choice.OrderedTruth.{rest_truth}
use Rattle.plural_base.proofs.rules.ordered.rule.OrderedRule.is_true.Given as goal

-- the rule is true if its group that is open is, or a later one
abbrev pub invariant-loop-relation : goal.invariant-loop-relation
invariant-loop-relation l = packed_truth l.operands l.self ≡ rest_truth l.so_far (map (told_at l.operands) (drop l.relation-index l.self))
