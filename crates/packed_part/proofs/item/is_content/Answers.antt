use Rattle.std.proofs.lemmas.Bool.Decides.{Decides-eqb}
use Rattle.std.proofs.lemmas.Slice.Eq.{slice_eq-Decides}
use Rattle.message_pattern.specs.PatternParts.{piece_view}
use Rattle.packed_part.specs.PackedParts.{own_bytes}
use Rattle.packed_part.proofs.Joined.{front_decides, rest_decides}
use Rattle.packed_part.proofs.item.is_content.Goals as goal

pub returns-then-eq : goal.returns-then-eq
returns-then-eq c =
    let front = slice_eq-Decides Decides-eqb _ _ c.eq.result c.eq.ensures in
    rest_decides c.args.content.now c.args.places.now (own_bytes (piece_view c.args.piece)) _ _ c.is_own.result
    c.split_at.ensures.front c.split_at.ensures.back (front.0 (cc)) c.is_own.ensures

pub returns-else-eq : goal.returns-else-eq
returns-else-eq c =
    let front = slice_eq-Decides Decides-eqb _ _ c.eq.result c.eq.ensures in
    front_decides c.args.content.now c.args.places.now (own_bytes (piece_view c.args.piece)) _ c.eq.result c.split_at.ensures.front (cc) front
