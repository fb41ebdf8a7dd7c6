use Rattle.plural_documents.specs.Inner.WaitingSteps.{begun_at}
use Rattle.plural_documents.proofs.WaitingLemmas.{takes_line}
use Rattle.plural_documents.proofs.written_lines.WaitingBytes.print.Goals as goal

pub returns-in-Ok : goal.returns-in-Ok
returns-in-Ok g c = λ text is. takes_line (begun_at c.args.start c.args.self.now) _ _ text is c.in-Ok.ensures.writes
