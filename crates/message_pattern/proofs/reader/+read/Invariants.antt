use Rattle.std.proofs.Common.{◌+◌, ◌*◌, ◌≤◌, false, length}
use Rattle.message_pattern.specs.PatternParts.{parts_view}
use Rattle.message_pattern.specs.PatternReading.{InMessage, InBranches, ReadOutcome, ReadsTo, read_step}
use Rattle.message_pattern.proofs.reader.+read.Given as goal

abbrev pub decreases-message : goal.decreases-message
decreases-message l = 2 * length l.text.now

abbrev pub decreases-argument : goal.decreases-argument
decreases-argument l = 2 * length l.text.now + 1

abbrev pub decreases-branches : goal.decreases-branches
decreases-branches l = 2 * length l.text.now

-- what the rest comes to, the message comes to
abbrev pub invariant-message-arguments : goal.invariant-message-arguments
invariant-message-arguments l = record {
  read : (outcome : ReadOutcome)
      → ReadsTo l.formats (read_step l.formats (InMessage l.context l.depth false) l.rest) (parts_view l.parts.items) outcome
      → ReadsTo l.formats (read_step l.formats (InMessage l.context l.depth false) l.text) (parts_view l.initial.parts.items) outcome;
  shorter : length l.rest ≤ length l.text;
}

abbrev pub decreases-message-arguments : goal.decreases-message-arguments
decreases-message-arguments l = length l.rest

-- what the rest comes to, the branches come to
abbrev pub invariant-branches-selectors : goal.invariant-branches-selectors
invariant-branches-selectors l = record {
  read : (outcome : ReadOutcome)
      → ReadsTo l.formats (read_step l.formats (InBranches l.kind l.depth l.has_other) l.rest) (parts_view l.parts.items) outcome
      → ReadsTo l.formats (read_step l.formats (InBranches l.kind l.depth false) l.text) (parts_view l.initial.parts.items) outcome;
  shorter : length l.rest ≤ length l.text;
}

abbrev pub decreases-branches-selectors : goal.decreases-branches-selectors
decreases-branches-selectors l = length l.rest
