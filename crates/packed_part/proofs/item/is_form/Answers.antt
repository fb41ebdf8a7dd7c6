use Rattle.std.proofs.lemmas.Bool.Decides.{Decides-eqb}
use Rattle.std.proofs.lemmas.Slice.Eq.{slice_eq-Decides}
use Rattle.packed_part.proofs.Forms.{places_decide}
use Rattle.packed_part.proofs.item.is_form.Goals as goal

pub returns-then-is_own_form : goal.returns-then-is_own_form
returns-then-is_own_form c =
    let same = slice_eq-Decides Decides-eqb _ _ c.eq-then-is_own_form.result c.eq-then-is_own_form.ensures in
    places_decide c.args.tag c.args.content.now c.args.places.now _ _ c.eq-then-is_own_form.result c.split_places.ensures.places
    c.split_places.ensures.own (c.is_own_form.ensures.0 c.if-is_own_form.true) same
