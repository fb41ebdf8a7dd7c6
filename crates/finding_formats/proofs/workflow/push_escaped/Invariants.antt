use Rattle.std.proofs.Common.{◌≡◌, ◌++◌, string_bytes}
use Rattle.std.specs.List.{flat_map}
use Rattle.std.specs.Str.Iter.{chars_rest}
use Rattle.finding_formats.specs.WorkflowCommands.{slot_byte}
use Rattle.finding_formats.proofs.workflow.push_escaped.Given as goal

-- the text so far, and what is written for the remaining characters
abbrev pub invariant-loop-c : goal.invariant-loop-c
invariant-loop-c l =
    string_bytes l.text ++ flat_map (slot_byte l.slot) (chars_rest l.c-iterator)
    ≡ string_bytes l.initial.text ++ flat_map (slot_byte l.slot) l.part
