use Rattle.document_report.proofs.Faultless.{faultless}
use Rattle.document_report.proofs.laws.faultless_documents_are_taken.Goals as goal

pub returns : goal.returns
returns c = faultless c.texts_give_one_answer.ensures
