use Rattle.std.proofs.Common.{ap, subst}
use Rattle.std.specs.Prelude.{OnOk}
use Rattle.serde_json.specs.Data.{Members}
use Rattle.serde_json.specs.View.{view}
use Rattle.document_report.specs.CheckedDocument.{members_or_none}
use Rattle.document_report.specs.DocumentReport.{IsFoundInRanges}
use Rattle.document_report.specs.FoundInDocuments.{HasGrownInDocument, IsFoundInDocumentMembers}
use Rattle.document_report.proofs.report.add_ranges.Goals as goal

pub returns : goal.returns
returns c =
    subst (λ (members : Members). OnOk c.add_members_of.result
    (HasGrownInDocument (IsFoundInDocumentMembers (IsFoundInRanges (view c.args.document.now)) members) c.args.found.now c.add_members_of.new.found))
    (ap members_or_none c.members_of-members.ensures) c.add_members_of.ensures
