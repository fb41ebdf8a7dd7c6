use Rattle.std.proofs.Common.{length, IsTrue}
use Rattle.std.specs.List.{list_all}
use Rattle.plural_runtime.specs.PackedRelations.{is_relation}
use Rattle.plural_runtime.proofs.walks.WalkSteps.{HasSkipped}
use Rattle.plural_runtime.proofs.resolver.first_of_next_group.Given as goal

-- All items so far are of the group that is open.
abbrev pub invariant-loop-cursor : goal.invariant-loop-cursor
invariant-loop-cursor l = record {
  items : IsTrue (list_all is_relation l.cursor.rest);
  skipped : HasSkipped l.fn.cursor.rest l.cursor.rest;
}

abbrev pub decreases-loop-cursor : goal.decreases-loop-cursor
decreases-loop-cursor l = length l.cursor.rest
