use Rattle.std.proofs.Common.{refl, sym}
use Rattle.document_report.specs.FoundInDocuments.{nothing_found}
use Rattle.document_report.proofs.FoundTogether.{together-nothing}
use Rattle.document_report.proofs.document.add_members_of.Goals as goal

pub returns-in-None : goal.returns-in-None
returns-in-None g c = rw c.in-None.is (nothing_found, refl, sym (together-nothing c.args.found.now))
