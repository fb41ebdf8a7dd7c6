use Rattle.std.proofs.Common.{◌≡◌, ◌≤◌, length, drop}
use Rattle.format_arguments.specs.DirectiveBytes.{after_directive_word}
use Rattle.format_arguments.proofs.bytes.after_word.Given as goal

-- the rest of the word at the rest of the text is as the whole word at the whole text
abbrev pub invariant-loop-byte : goal.invariant-loop-byte
invariant-loop-byte l = record {
  word : after_directive_word (drop l.byte-index l.word) l.rest ≡ after_directive_word l.word l.text;
  shorter : length l.rest ≤ length l.text;
}
