use Rattle.std.proofs.Common.{◌≡◌, ◌-◌, ◌*◌, ◌^◌, ◌≤◌}
use Rattle.number_lines.proofs.plain.trimmed.Given as goal

-- what is left and the zeros behind it write the same number
abbrev pub invariant-loop-left : goal.invariant-loop-left
invariant-loop-left l = (l.left ≤ l.shown) × (l.f ≡ l.rest * 10 ^ (l.shown - l.left))

abbrev pub decreases-loop-left : goal.decreases-loop-left
decreases-loop-left l = l.left
