use Rattle.std.proofs.Common.{◌≤◌, length}
use Rattle.translation_files.proofs.json_file.text_bytes.after_word.Given as goal

abbrev pub invariant-loop-byte : goal.invariant-loop-byte
invariant-loop-byte l = length l.rest ≤ length l.text
