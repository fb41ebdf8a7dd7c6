use Rattle.std.proofs.Common.{refl}
use Rattle.plural_reference.proofs.printing.Writes.{one_call, then_writes}
use Rattle.plural_reference.proofs.serializer.part.serialize_prefixed.Goals as goal

pub returns-in_ok-write_to : goal.returns-in_ok-write_to
returns-in_ok-write_to g c =
    let took = g.W.Write.write_str_gives in
    rw c.in-Some.is (then_writes took _ _ _ _ _ (one_call took _ _ _ (c.in_ok-write_str.ensures.ok refl)) c.in_ok-write_to.ensures)
