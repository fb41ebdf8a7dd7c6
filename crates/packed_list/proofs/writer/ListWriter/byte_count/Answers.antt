use Rattle.std.proofs.Common.{◌≡◌, ℕ, ◌+◌, ◌*◌, List, length, refl, arith, subst, ap, ◌∙◌}
use Rattle.packed_list.specs.ListBytes.{CanPack, list_bytes}
use Rattle.packed_list.proofs.ListPlaces.{length-list_bytes}
use Rattle.packed_list.proofs.writer.ListWriter.byte_count.Goals as goal

pub returns-clause-count : goal.returns-clause-count
returns-clause-count g c =
    let items : List (List ℕ) = g.I.ByteItems.items c.self.inside.items in
    let l = length-list_bytes items (list_bytes items) refl in
    let e : 2 * c.self.inside.count + c.self.inside.total ≡ length (list_bytes items) =
    omega (arith, l, c.self.invariant.count, c.self.invariant.total) in
    e ∙ ap (λ (some : List (List ℕ)). length (list_bytes some)) c.self.view_is

pub returns-clause-can_pack : goal.returns-clause-can_pack
returns-clause-can_pack g c = subst CanPack c.self.view_is c.self.invariant.can_pack
