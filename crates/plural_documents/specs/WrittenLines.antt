-- Lines that are written behind bytes that wait.
--     shown_lines line_of things      a line for each thing
--     lines_behind waiting line_of things end      the bytes that wait, the lines, and an end
use Rattle.std.specs.Prelude.{ℕ, List, ◌++◌}
use Rattle.std.specs.List.{flat_map}
use Rattle.plural_documents.specs.PrintedKeys.{ended_line}
use Rattle.plural_documents.specs.declared.written_lines.WaitingBytes.{WaitingBytes}

abbrev pub waiting_bytes : WaitingBytes → List ℕ
waiting_bytes w = w.bytes.items

abbrev pub shown_lines : {T : Type 0} → (T → List ℕ) → List T → List ℕ
shown_lines line_of things = flat_map (λ thing. ended_line (line_of thing)) things

abbrev pub lines_behind : {T : Type 0} → List ℕ → (T → List ℕ) → List T → List ℕ → List ℕ
lines_behind waiting line_of things end = waiting ++ (shown_lines line_of things ++ end)
