use Rattle.std.proofs.Common.{◌≡◌, ◌+◌, length}
use Rattle.plural_runtime.specs.PackedTruth.{range_count}
use Rattle.plural_base.proofs.rules.few_ranges.left_after_relations.Given as goal

-- what is left, and what is taken, is the number
abbrev pub invariant-loop-item : goal.invariant-loop-item
invariant-loop-item l = l.left + (length l.rule + range_count l.rule) ≡ l.number + (length l.item-iterator + range_count l.item-iterator)
