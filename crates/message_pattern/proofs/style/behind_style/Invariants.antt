use Rattle.std.proofs.Common.{◌≡◌, ◌+◌, ◌≤◌, false, length}
use Rattle.message_pattern.specs.PatternStyles.{behind_style}
use Rattle.message_pattern.proofs.style.behind_style.Given as goal

-- the style ends where the rest of it does
abbrev pub invariant-loop-rest : goal.invariant-loop-rest
invariant-loop-rest l = record {
  style : behind_style l.braces l.quoted l.rest ≡ behind_style 0 false l.text;
  braces : l.braces + length l.rest ≤ length l.text;
}

abbrev pub decreases-loop-rest : goal.decreases-loop-rest
decreases-loop-rest l = length l.rest
