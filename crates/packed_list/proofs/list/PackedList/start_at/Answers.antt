use Rattle.std.proofs.Common.{arith, sym, ap, ◌/◌, ◌∙◌, Some}
use Rattle.packed_list.specs.ListBytes.{two_byte_number}
use Rattle.packed_list.proofs.ListPlaces.{lies_in, start_at-positive}
use Rattle.packed_list.proofs.list.PackedList.start_at.Goals as goal

pub number-requires : goal.number-requires
number-requires c =
    let h = lies_in _ _ c.self.view_is c.self.invariant in
    omega (arith, h.all, c.requires.even, c.requires.within)

pub returns : goal.returns
returns c =
    let h = lies_in _ _ c.self.view_is c.self.invariant in
    let bytes = c.self.inside.bytes.now in
    let index = c.args.place / 2 in
    h.start index (omega (arith, c.requires.even, c.requires.within))
    ∙ ap Some (start_at-positive bytes index (λ e. omega (arith, e, c.requires.even, c.requires.some))
    ∙ ap (two_byte_number bytes) (sym c.requires.even) ∙ sym c.number.ensures.value)
