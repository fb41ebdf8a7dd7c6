use Rattle.std.proofs.Common.{◌≡◌, ◌≤◌, length}
use Rattle.pattern_bytes.specs.PatternBytes.{skip}
use Rattle.pattern_bytes.proofs.bytes.after_white.Given as goal

-- only white space was passed
abbrev pub invariant-white : goal.invariant-white
invariant-white l = record { rest : skip 0 l.rest ≡ skip 0 l.text; shorter : length l.rest ≤ length l.text }

abbrev pub decreases-white : goal.decreases-white
decreases-white l = length l.rest
