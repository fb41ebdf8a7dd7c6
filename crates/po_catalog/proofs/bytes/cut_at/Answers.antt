use Rattle.std.proofs.Common.{◌∙◌, arith}
use Rattle.po_catalog.proofs.Cuts.{cut_later}
use Rattle.po_catalog.proofs.bytes.cut_at.Goals as goal

pub loop-place-preserved : goal.loop-place-preserved
loop-place-preserved c = c.loop-place.invariant
    ∙ cut_later c.args.byte c.args.text.now c.loop-place.place (omega arith) c.if-here-byte.false
