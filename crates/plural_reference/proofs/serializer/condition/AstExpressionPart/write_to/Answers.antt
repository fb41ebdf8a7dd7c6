use Rattle.std.proofs.lemmas.Result.{on_ok_weaker}
use Rattle.plural_reference.proofs.printing.Writes.{then_writes}
use Rattle.plural_reference.proofs.serializer.condition.AstExpressionPart.write_to.Goals as goal

pub returns : goal.returns
returns g c =
    on_ok_weaker c.serialize_prefixed.result
    (λ h. then_writes g.W.Write.write_str_gives _ _ _ _ _ c.in_ok-write_to.ensures (rw c.as_ref.ensures.value at h))
    c.serialize_prefixed.ensures
