use Rattle.std.proofs.Common.{◌≡◌, ℕ, List, ◌++◌, length}
use Rattle.number_lines.specs.Inner.LineSteps.{TakesBytes}
use Rattle.number_lines.proofs.stream.take_bytes.Given as goal

-- what stands before the rest is taken
abbrev pub invariant-loop-rest : goal.invariant-loop-rest
invariant-loop-rest l =
    (front : List ℕ) × (l.bytes ≡ front ++ l.rest) × TakesBytes l.rules front l.initial.lines l.lines

abbrev pub decreases-loop-rest : goal.decreases-loop-rest
decreases-loop-rest l = length l.rest
