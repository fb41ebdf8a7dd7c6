use Rattle.std.proofs.Common.{◌+◌, ◌-◌, ◌≤◌, length}
use Rattle.format_arguments.specs.CutTexts.{arguments_view}
use Rattle.format_arguments.proofs.Readings.{IsReadBefore}
use Rattle.format_arguments.proofs.reader.arguments.Given as goal

-- the text has the arguments so far, and then those of the rest
abbrev pub invariant-pieces : goal.invariant-pieces
invariant-pieces l = record {
  done : IsReadBefore l.format l.text (arguments_view l.items.items) l.next (length l.text - length l.rest) l.rest;
  shorter : length l.rest ≤ length l.text;
  in_turn : l.next + length l.rest ≤ 1 + length l.text;
}

abbrev pub decreases-pieces : goal.decreases-pieces
decreases-pieces l = length l.rest
