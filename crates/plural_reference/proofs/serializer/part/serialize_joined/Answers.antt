use Rattle.plural_reference.proofs.printing.Writes.{more_written}
use Rattle.plural_reference.proofs.serializer.part.serialize_joined.Goals as goal

pub loop-index-preserved : goal.loop-index-preserved
loop-index-preserved g c =
    more_written g.W.Write.write_str_gives c.args.separator.now g.P.Part.text c.args.parts.now c.loop-index.index _ _ _ _ _
    c.loop-index-test.true c.index-parts-index.is c.loop-index.invariant c.in_ok-write_before.ensures c.in_ok-write_to.ensures
