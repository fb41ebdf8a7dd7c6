use Rattle.std.proofs.Common.{◌≡◌, ◌≤◌, length, drop}
use Rattle.pattern_bytes.specs.PatternBytes.{after_word}
use Rattle.pattern_bytes.proofs.bytes.after_word.Given as goal

-- the rest of the word at the rest of the text is as the whole word at the whole text
abbrev pub invariant-loop-byte : goal.invariant-loop-byte
invariant-loop-byte l = record {
  word : after_word (drop l.byte-index l.word) l.rest ≡ after_word l.word l.text;
  shorter : length l.rest ≤ length l.text;
}
