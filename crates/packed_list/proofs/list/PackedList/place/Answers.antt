use Rattle.std.proofs.Common.{arith, sym, ap, ◌∙◌, Some}
use Rattle.packed_list.proofs.ListPlaces.{lies_in, start_at-positive}
use Rattle.packed_list.proofs.list.PackedList.place.Goals as goal

pub number-requires : goal.number-requires
number-requires c =
    let h = lies_in _ _ c.self.view_is c.self.invariant in
    omega (arith, h.all)

pub returns-else-index-eq0 : goal.returns-else-index-eq0
returns-else-index-eq0 c =
    let h = lies_in _ _ c.self.view_is c.self.invariant in
    h.start c.args.index c.requires
    ∙ ap Some (start_at-positive c.self.inside.bytes.now c.args.index c.if-index-eq0.false ∙ sym c.number.ensures.value)
