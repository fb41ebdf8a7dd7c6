use Rattle.std.proofs.Common.{sym}
use Rattle.packed_pattern.proofs.PartPlaceNumbers.{placed_at}
use Rattle.packed_pattern.proofs.block.PackedPattern.placed.Goals as goal

pub returns : goal.returns
returns c = rw (← c.self.view_is)
    (placed_at c.self.inside.list c.args.index c.in_ok-item.item.now c.self.invariant (sym c.in_ok-item.ensures))
