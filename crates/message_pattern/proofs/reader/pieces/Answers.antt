use Rattle.std.proofs.Common.{sym, arith}
use Rattle.message_pattern.specs.PatternParts.{parts_view}
use Rattle.message_pattern.specs.Inner.PatternViews.{stop_view}
use Rattle.message_pattern.proofs.Steps.{front_decides, piece_read}
use Rattle.message_pattern.proofs.Shorter.{shorter_too}
use Rattle.message_pattern.proofs.reader.pieces.Goals as goal

pub returns-in-Stops-clause-read : goal.returns-in-Stops-clause-read
returns-in-Stops-clause-read c = λ formats o h.
    c.pieces.invariant.read formats o
    (front_decides c.args.context c.args.depth c.pieces.quoted c.pieces.rest.now (stop_view c.in-Stops.stop)
    (parts_view c.pieces.parts.items) o (sym c.in-Stops.ensures.front) h)

pub returns-in-Stops-clause-shorter : goal.returns-in-Stops-clause-shorter
returns-in-Stops-clause-shorter c =
    shorter_too (stop_view c.in-Stops.stop) c.pieces.rest.now c.args.text.now c.in-Stops.ensures.shorter c.pieces.invariant.shorter

pub pieces-preserved : goal.pieces-preserved
pieces-preserved c = record {
  read = λ formats o h.
      c.pieces.invariant.read formats o
      (piece_read c.args.context c.args.depth c.pieces.quoted c.in-Takes.remains c.pieces.rest.now c.in-Takes.after.now _
      (parts_view c.pieces.parts.items) _ o (sym c.in-Takes.ensures.front) c.in_ok-push_any-in-Takes.ensures.ok h);
  shorter = omega (arith, c.in-Takes.ensures.shorter, c.pieces.invariant.shorter);
}
