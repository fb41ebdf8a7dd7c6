use Rattle.plural_documents.proofs.OutputLemmas.{more_taken, none_taken}
use Rattle.plural_documents.proofs.output.write_output.Goals.{in-Ok, in-Err+else-ne}
use Rattle.plural_documents.proofs.output.write_output.Goals as goal

pub loop-preserved : goal.loop-preserved
loop-preserved g c =
    elim c.match-write.branch [
      | in-Ok w ↦ rw w.rest-is (more_taken _ _ _ _ c.loop.rest.now w.in-Ok.count c.loop.invariant w.in-Ok.ensures.bytes)
      | in-Err+else-ne w ↦ rw w.rest-is (none_taken _ _ _ _ c.loop.rest.now c.loop.invariant w.in-Err.ensures.bytes)
    ]
