use Rattle.std.proofs.Common.{Option, ap, ◌∙◌}
use Rattle.serde_json.specs.Data.{Data}
use Rattle.serde_json.specs.View.{members_view, view}
use Rattle.document_report.specs.FoundInDocuments.{together}
use Rattle.document_report.specs.ParentFaults.{found_of_shape}
use Rattle.document_report.proofs.FoundParts.{on_ok}
use Rattle.document_report.proofs.ParentsFound.{with_members, without_members}
use Rattle.document_report.proofs.parents.add_parents.Goals as goal

pub returns-in-Some : goal.returns-in-Some
returns-in-Some c =
    let document = view c.args.document.now in
    let old = c.args.found.now in
    let shape = c.in_ok-add_shape.ensures ∙ ap (λ (part : Option Data). together old (found_of_shape part)) c.get.ensures in
    on_ok c.add_named.result
    (λ added. with_members document (members_view c.in-Some.members.now.entries) old c.add_shape.new.found c.add_named.new.found
    c.in-Some.ensures shape added)
    c.add_named.ensures

pub returns-in-None : goal.returns-in-None
returns-in-None c =
    let old = c.args.found.now in
    without_members (view c.args.document.now) old c.add_shape.new.found c.in-None.ensures
    (c.in_ok-add_shape.ensures ∙ ap (λ (part : Option Data). together old (found_of_shape part)) c.get.ensures)
