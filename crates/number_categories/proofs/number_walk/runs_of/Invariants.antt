use Rattle.std.proofs.Common.{◌≡◌, ◌≤◌, ◌+◌, ◌<◌, ℕ, length, false}
use Rattle.std.specs.Prelude.{slice_index, slice_index_or, IsTrue}
use Rattle.number_categories.proofs.number_walk.runs_of.Given as goal

-- the runs from this place on are right, and this is the one that begins here
abbrev pub invariant-loop-place : goal.invariant-loop-place
invariant-loop-place l = record {
  all : length l.runs ≡ 100;
  end : l.place + l.run ≤ 100;
  here : (j : ℕ) → j < l.run → IsTrue (slice_index_or l.told (l.place + j) false);
  at : (r j : ℕ) → l.place ≤ r → r < 100 → j < slice_index l.runs r
      → (r + j < 100) × IsTrue (slice_index_or l.told (r + j) false);
}

abbrev pub decreases-loop-place : goal.decreases-loop-place
decreases-loop-place l = l.place
