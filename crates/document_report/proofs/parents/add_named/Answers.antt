use Rattle.document_members.specs.ParentRows.{named_parent, parent_among}
use Rattle.serde_json.specs.View.{members_view}
use Rattle.document_report.proofs.SameParents.{same_parents}
use Rattle.document_report.proofs.FoundParts.{on_ok}
use Rattle.document_report.proofs.parents.add_named.Goals as goal

pub returns : goal.returns
returns c =
    let members = members_view c.args.members.now.entries in
    on_ok c.add_all.result
    (λ added. (
      added.0,
      same_parents (named_parent c.in_ok-parents.parents) (parent_among members) c.in_ok-parents.ensures members added.0 added.1,
      added.2,
    ))
    c.add_all.ensures
