use Rattle.std.proofs.Common.{ap, sym, ◌∙◌}
use Rattle.serde_json.specs.View.{view}
use Rattle.document_report.specs.FoundInDocuments.{Found, together}
use Rattle.document_report.proofs.FoundParts.{on_ok}
use Rattle.document_report.proofs.ParentsFound.{no_object}
use Rattle.document_report.proofs.parents.add_value.Goals as goal

pub returns : goal.returns
returns c =
    let shape =
    no_object (view c.args.value.now) (sym c.is_null.ensures ∙ c.if-is_null.false) (sym c.is_object.ensures ∙ c.if-is_object.false) in
    on_ok c.add_fault.result
    (λ added. added ∙ ap (λ (more : Found). together c.args.found.now more) (sym shape))
    c.add_fault.ensures
