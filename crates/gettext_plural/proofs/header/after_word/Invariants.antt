use Rattle.std.proofs.Common.{◌≡◌, drop}
use Rattle.gettext_plural.specs.PluralHeaders.{after_header_word}
use Rattle.gettext_plural.proofs.header.after_word.Given as goal

-- the rest of the word at the rest of the text is as the whole word at the whole text
abbrev pub invariant-loop-byte : goal.invariant-loop-byte
invariant-loop-byte l = after_header_word (drop l.byte-index l.word) l.rest ≡ after_header_word l.word l.text
