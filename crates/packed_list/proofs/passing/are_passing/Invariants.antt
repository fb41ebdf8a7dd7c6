use Rattle.std.proofs.Common.{◌≡◌, ◌*◌, ◌<◌, drop}
use Rattle.packed_list.proofs.ToldItems.{EndsAt, Told, starts_behind}
use Rattle.packed_list.proofs.passing.are_passing.Given as goal

-- The items behind the one at the place rise and pass, and it is known where that one ends.
abbrev pub invariant-loop-place : goal.invariant-loop-place
invariant-loop-place g l = record {
  below : l.place < l.count;
  holds : l.content ≡ drop (2 * l.count) l.bytes;
  told : Told g.T.ItemTest.passing l.content (starts_behind l.bytes l.count l.place) l.end;
  ends : EndsAt l.bytes l.place l.end;
}

abbrev pub decreases-loop-place : goal.decreases-loop-place
decreases-loop-place g l = l.place
