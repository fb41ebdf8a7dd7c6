use Rattle.std.proofs.Common.{refl}
use Rattle.document_report.specs.DocumentReport.{found_of_part}
use Rattle.document_report.proofs.FoundParts.{on_ok}
use Rattle.document_report.proofs.keys.PartCheckMemberCheckFound.add.Goals as goal

pub returns : goal.returns
returns c = on_ok c.add_part.result (λ added. (found_of_part c.args.key.now, refl, added)) c.add_part.ensures
