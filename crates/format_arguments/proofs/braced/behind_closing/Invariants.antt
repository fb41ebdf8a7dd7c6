use Rattle.std.proofs.Common.{◌≡◌, ◌+◌, ◌≤◌, false, length}
use Rattle.format_arguments.specs.Directives.{behind_closing}
use Rattle.format_arguments.proofs.braced.behind_closing.Given as goal

-- the brace that closes is that of the whole text; each open one takes a byte
abbrev pub invariant-loop-rest : goal.invariant-loop-rest
invariant-loop-rest l = record {
  same : behind_closing l.quotes l.quoted l.depth l.rest ≡ behind_closing l.quotes false 0 l.text;
  within : l.depth + length l.rest ≤ length l.text;
}

abbrev pub decreases-loop-rest : goal.decreases-loop-rest
decreases-loop-rest l = length l.rest
