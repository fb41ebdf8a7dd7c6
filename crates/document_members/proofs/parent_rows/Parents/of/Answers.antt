use Rattle.document_members.proofs.RowLookups.{no_rows}
use Rattle.document_members.proofs.parent_rows.Parents.of.Goals as goal

pub put_all-requires-clause-firsts : goal.put_all-requires-clause-firsts
put_all-requires-clause-firsts c = λ name. no_rows c.new-folded.result name c.new-folded.ensures.empty

pub put_all-requires-clause-others : goal.put_all-requires-clause-others
put_all-requires-clause-others c = λ name. no_rows c.new-exact.result name c.new-exact.ensures.empty
