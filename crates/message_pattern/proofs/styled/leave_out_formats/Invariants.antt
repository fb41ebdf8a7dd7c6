use Rattle.std.proofs.Common.{◌≡◌, ◌++◌, length, take, drop}
use Rattle.message_pattern.specs.PatternParts.{parts_view}
use Rattle.message_pattern.specs.StyledParts.{unstyled}
use Rattle.message_pattern.proofs.styled.leave_out_formats.Given as goal

-- the first parts are without formats, and the others as they were
abbrev pub invariant-loop-i : goal.invariant-loop-i
invariant-loop-i l = record {
  parts : parts_view l.parts.items ≡ unstyled (take l.i (parts_view l.initial.parts.items)) ++ drop l.i (parts_view l.initial.parts.items);
  length : length l.parts.items ≡ length l.initial.parts.items;
}
