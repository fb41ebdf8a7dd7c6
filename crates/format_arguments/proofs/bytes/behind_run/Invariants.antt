use Rattle.std.proofs.Common.{◌≡◌, ◌≤◌, length}
use Rattle.format_arguments.specs.DirectiveBytes.{behind_directive_run}
use Rattle.format_arguments.proofs.bytes.behind_run.Given as goal

-- only bytes of the class were passed
abbrev pub invariant-loop-rest : goal.invariant-loop-rest
invariant-loop-rest l = record { rest : behind_directive_run l.class l.rest ≡ behind_directive_run l.class l.text; shorter : length l.rest ≤ length l.text }

abbrev pub decreases-loop-rest : goal.decreases-loop-rest
decreases-loop-rest l = length l.rest
