use Rattle.std.proofs.lemmas.Result.{on_ok_weaker}
use Rattle.plural_reference.proofs.printing.Writes.{then_writes}
use Rattle.plural_reference.proofs.serializer.serialize_samples.Goals as goal

pub returns : goal.returns
returns g c =
    let integer = rw c.as_ref.ensures.value at c.in_ok-serialize_prefixed.ensures in
    on_ok_weaker c.serialize_prefixed-2.result
    (λ h. then_writes g.W.Write.write_str_gives _ _ _ _ _ integer (rw c.as_ref-2.ensures.value at h))
    c.serialize_prefixed-2.ensures
