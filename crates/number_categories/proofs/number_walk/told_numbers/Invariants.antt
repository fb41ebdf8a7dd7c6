use Rattle.std.proofs.Common.{◌≡◌, length}
use Rattle.number_categories.specs.Inner.ToldRemainders.{AreMarked}
use Rattle.number_categories.proofs.number_walk.told_numbers.Given as goal

-- each that is marked so far is told
abbrev pub invariant-loop-place : goal.invariant-loop-place
invariant-loop-place l = (length l.told ≡ 100) × AreMarked l.table l.told
