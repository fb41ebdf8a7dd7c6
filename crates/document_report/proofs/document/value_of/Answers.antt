use Rattle.std.proofs.Common.{Err, refl}
use Rattle.serde_json.specs.View.{view}
use Rattle.document_report.specs.CheckedDocument.{document_formed, document_with}
use Rattle.plural_documents.specs.Steps.{value_or_fault}
use Rattle.document_report.specs.declared.error.CheckError.TheVariants.{Json}
use Rattle.plural_documents.specs.Inputs.{json_of}
use Rattle.document_report.proofs.CheckFaults.{kept_if_formed, of_second, refused_first}
use Rattle.document_report.proofs.document.value_of.Goals as goal

pub returns-in-Ok : goal.returns-in-Ok
returns-in-Ok c =
    let value = view c.in-Ok.value in
    of_second view (value_or_fault Json (json_of c.args.bytes.now)) value document_with c.and.result c.in-Ok.ensures
    (rw c.and.ensures (kept_if_formed view (document_formed value) c.in-Ok.value c.check_document.result c.check_document.ensures))

pub returns-in-Err : goal.returns-in-Err
returns-in-Err c =
    refused_first view (value_or_fault Json (json_of c.args.bytes.now)) document_with c.in-Err.error (Err c.in-Err.error) refl c.in-Err.ensures
