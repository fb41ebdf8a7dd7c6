use Rattle.std.proofs.lemmas.Option.{slice_get_past}
use Rattle.std.specs.List.{slice_range}
use Rattle.std.proofs.Common.{arith, sym, ap, ◌∙◌, Some}
use Rattle.packed_list.proofs.ListPlaces.{item_is}
use Rattle.packed_list.proofs.list.PackedList.get.Goals as goal

pub part-requires-clause-order : goal.part-requires-clause-order
part-requires-clause-order c =
    (item_is c.args.self.now c.args.index c.place.result c.end.result (omega arith) c.place.ensures c.end.ensures).below

pub part-requires-clause-within : goal.part-requires-clause-within
part-requires-clause-within c =
    let h = item_is c.args.self.now c.args.index c.place.result c.end.result (omega arith) c.place.ensures c.end.ensures in
    rw c.data.ensures h.within

pub returns-then-index-len : goal.returns-then-index-len
returns-then-index-len c =
    let h = item_is c.args.self.now c.args.index c.place.result c.end.result (omega arith) c.place.ensures c.end.ensures in
    ap Some (c.part.ensures ∙ ap (λ bytes. slice_range bytes c.place.result c.end.result) c.data.ensures) ∙ sym h.item

pub returns-else-index-len : goal.returns-else-index-len
returns-else-index-len c = sym (slice_get_past c.args.self.now c.args.index (omega arith))
