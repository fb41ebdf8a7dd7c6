use Rattle.std.proofs.Common.{◌-◌, ℕ, length, subst, sym, arith}
use Rattle.format_arguments.specs.CutTexts.{arguments_view}
use Rattle.format_arguments.specs.Inner.DirectiveViews.{says_view}
use Rattle.format_arguments.proofs.OneReading.{tells}
use Rattle.format_arguments.proofs.Readings.{IsReadBefore, end_read, fault_read, piece_read}
use Rattle.format_arguments.proofs.reader.arguments.Goals as goal

pub returns-in-End : goal.returns-in-End
returns-in-End c =
    let text = c.args.text.now in
    let s = c.pieces.rest.now in
    tells c.args.format text _
    (end_read c.args.format text s (arguments_view c.pieces.items.items) c.pieces.next (length text - length s) c.pieces.invariant.done
    (sym c.in-End.ensures.front))

pub returns-in-Broken : goal.returns-in-Broken
returns-in-Broken c =
    let text = c.args.text.now in
    let s = c.pieces.rest.now in
    tells c.args.format text _
    (fault_read c.args.format text s (arguments_view c.pieces.items.items) c.pieces.next
    (length text - length s) c.pieces.invariant.done (sym c.in-Broken.ensures.front))

pub pieces-preserved : goal.pieces-preserved
pieces-preserved c =
    let text = c.args.text.now in
    let s = c.pieces.rest.now in
    let rest = c.in-Takes.after.now in
    let old = arguments_view c.pieces.items.items in
    let new = arguments_view c.tell.new.items.items in
    let told = c.in_ok-next-in-Takes.ensures in
    record {
      done =
          subst (λ (n : ℕ). IsReadBefore c.args.format text new n (length text - length rest) rest) (sym told.next)
          (piece_read c.args.format text s rest old new c.pieces.next
          (says_view c.in-Takes.says) c.pieces.invariant.shorter c.pieces.invariant.done (sym c.in-Takes.ensures.front) told.told);
      shorter = omega (arith, c.in-Takes.ensures.shorter, c.pieces.invariant.shorter);
      in_turn = omega (arith, c.in-Takes.ensures.shorter, c.pieces.invariant.in_turn, told.within);
    }
