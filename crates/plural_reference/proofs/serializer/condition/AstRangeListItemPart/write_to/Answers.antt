use Rattle.std.proofs.Common.{refl}
use Rattle.std.proofs.lemmas.Result.{on_ok_weaker}
use Rattle.plural_reference.proofs.printing.Writes.{one_call, then_writes}
use Rattle.plural_reference.proofs.serializer.condition.AstRangeListItemPart.write_to.Goals as goal

pub returns-in_ok-write_str-in-Range : goal.returns-in_ok-write_str-in-Range
returns-in_ok-write_str-in-Range g c =
    let took = g.W.Write.write_str_gives in
    on_ok_weaker c.write_to-in-Range.result
    (λ h. rw c.in-Range.is
    (then_writes took _ _ _ _ _
    (then_writes took _ _ _ _ _ c.in_ok-write_to-in-Range.ensures
    (one_call took _ _ _ (c.in_ok-write_str-in-Range.ensures.ok refl)))
    h))
    c.write_to-in-Range.ensures
