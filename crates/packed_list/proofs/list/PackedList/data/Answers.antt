use Rattle.std.proofs.lemmas.List.{take_rest}
use Rattle.std.proofs.Common.{arith, ◌-◌, ◌*◌, length, drop, take, ap, ◌∙◌}
use Rattle.packed_list.proofs.ListPlaces.{lies_in}
use Rattle.packed_list.proofs.list.PackedList.data.Goals as goal

pub part-requires-clause-order : goal.part-requires-clause-order
part-requires-clause-order c =
    let h = lies_in _ _ c.self.view_is c.self.invariant in
    omega (arith, h.all)

pub returns : goal.returns
returns c =
    let bytes = c.self.inside.bytes.now in
    let h = lies_in _ _ c.self.view_is c.self.invariant in
    c.part.ensures ∙ ap (λ n. take (length bytes - n) (drop n bytes)) (ap (λ n. 2 * n) c.len.ensures)
    ∙ take_rest bytes (2 * length c.args.self.now) ∙ h.content
