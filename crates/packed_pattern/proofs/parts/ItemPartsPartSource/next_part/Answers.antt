use Rattle.std.proofs.Common.{◌∙◌, ◌∷◌, ◌+◌, arith, ap, sym, drop, map}
use Rattle.packed_part.specs.Inner.PartReading.{part_in}
use Rattle.packed_pattern.proofs.BlockItems.{items_step}
use Rattle.packed_pattern.proofs.parts.ItemPartsPartSource.next_part.Goals as goal

pub returns : goal.returns
returns c =
    let items = c.args.self.now.list.now in
    let next = c.args.self.now.next in
    ap (map part_in) (items_step items next c.in_ok-item.item.now (omega (arith, c.len.ensures)) c.in_ok-item.ensures)
    ∙ ap (λ p. p ∷ map part_in (drop (next + 1) items)) (sym c.part_in.ensures)
