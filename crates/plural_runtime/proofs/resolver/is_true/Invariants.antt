use Rattle.std.proofs.Common.{length, IsTrue}
use Rattle.std.specs.Fn.{iterate}
use Rattle.std.specs.List.{list_all}
use Rattle.plural_runtime.specs.PackedRelations.{is_relation}
use Rattle.plural_runtime.specs.PackedTruth.{packed_truth, needed_ranges}
use Rattle.plural_runtime.proofs.walks.WalkSteps.{WalksFrom}
use Rattle.plural_runtime.proofs.resolver.is_true.Given as goal

-- The item and the remaining ones decide, and need the rest of the count.
abbrev pub invariant-relations : goal.invariant-relations
invariant-relations g l = record {
  item : IsTrue (is_relation l.cursor.item);
  items : IsTrue (list_all is_relation l.cursor.rest);
  walk : WalksFrom g.C.Counter.after_one l.operands l.cursor.item l.cursor.rest l.counter (packed_truth l.operands l.rule)
      (iterate g.C.Counter.after_one (needed_ranges l.operands l.rule) l.fn.counter);
}

abbrev pub decreases-relations : goal.decreases-relations
decreases-relations g l = length l.cursor.rest
