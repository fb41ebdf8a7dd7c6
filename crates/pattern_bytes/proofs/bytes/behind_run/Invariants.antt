use Rattle.std.proofs.Common.{◌≡◌, ◌≤◌, length}
use Rattle.pattern_bytes.specs.PatternBytes.{behind_run}
use Rattle.pattern_bytes.proofs.bytes.behind_run.Given as goal

-- only bytes of the class were passed
abbrev pub invariant-loop-rest : goal.invariant-loop-rest
invariant-loop-rest l = record { rest : behind_run l.class l.rest ≡ behind_run l.class l.text; shorter : length l.rest ≤ length l.text }

abbrev pub decreases-loop-rest : goal.decreases-loop-rest
decreases-loop-rest l = length l.rest
