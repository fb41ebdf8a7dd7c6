use Rattle.std.proofs.lemmas.Bool.Decides.{Decides-eqb}
use Rattle.std.proofs.lemmas.Slice.Eq.{slice_eq-Decides}
use Rattle.packed_part.proofs.Joined.{front_decides, rest_decides}
use Rattle.packed_part.proofs.item.is_joined.Goals as goal

pub returns-then-eq : goal.returns-then-eq
returns-then-eq c =
    let first = slice_eq-Decides Decides-eqb _ _ c.eq.result c.eq.ensures in
    let second = slice_eq-Decides Decides-eqb _ _ c.eq-then-eq.result c.eq-then-eq.ensures in
    rest_decides c.args.text.now c.args.first.now c.args.second.now _ _ c.eq-then-eq.result c.split_at.ensures.front c.split_at.ensures.back
    (first.0 (cc)) second

pub returns-else-eq : goal.returns-else-eq
returns-else-eq c =
    let first = slice_eq-Decides Decides-eqb _ _ c.eq.result c.eq.ensures in
    front_decides c.args.text.now c.args.first.now c.args.second.now _ c.eq.result c.split_at.ensures.front (cc) first
