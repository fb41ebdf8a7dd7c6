use Rattle.std.proofs.Common.{◌≤◌, false, length}
use Rattle.message_pattern.specs.declared.head.Formats.{Formats}
use Rattle.message_pattern.specs.PatternParts.{parts_view}
use Rattle.message_pattern.specs.PatternReading.{InMessage, ReadOutcome, ReadsTo, read_step}
use Rattle.message_pattern.proofs.reader.pieces.Given as goal

-- what the rest comes to, the message comes to
abbrev pub invariant-pieces : goal.invariant-pieces
invariant-pieces l = record {
  read : (formats : Formats) (outcome : ReadOutcome)
      → ReadsTo formats (read_step formats (InMessage l.context l.depth l.quoted) l.rest) (parts_view l.parts.items) outcome
      → ReadsTo formats (read_step formats (InMessage l.context l.depth false) l.text) (parts_view l.initial.parts.items) outcome;
  shorter : length l.rest ≤ length l.text;
}

abbrev pub decreases-pieces : goal.decreases-pieces
decreases-pieces l = length l.rest
