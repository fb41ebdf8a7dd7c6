use Rattle.std.proofs.Common.{ap, subst, ◌∙◌}
use Rattle.serde_json.specs.Data.{Members}
use Rattle.document_report.specs.CheckedDocument.{members_or_none}
use Rattle.document_report.specs.DocumentReport.{IsFoundInPartKey}
use Rattle.document_report.specs.FoundInDocuments.{Found, together, IsFoundInDocumentMembers}
use Rattle.document_report.proofs.FoundParts.{five_added, on_ok}
use Rattle.document_report.proofs.report.add_parts.Goals as goal

pub returns : goal.returns
returns c =
    let keys = c.in_ok-add_members_of.ensures in
    let cardinal = c.in_ok-add_rules.ensures in
    let ordinal = c.in_ok-add_rules-2.ensures in
    let ranges = c.in_ok-add_ranges.ensures in
    on_ok c.add_parents.result
    (λ parents. (
      keys.0,
      cardinal.0,
      ordinal.0,
      ranges.0,
      parents.0,
      subst (λ (members : Members). IsFoundInDocumentMembers IsFoundInPartKey members keys.0) (ap members_or_none c.as_object.ensures) keys.1,
      cardinal.1,
      ordinal.1,
      ranges.1,
      parents.1,
      five_added keys.0 cardinal.0 ordinal.0 ranges.0 parents.0 c.add_members_of.new.found c.add_rules.new.found
          c.add_rules-2.new.found c.add_ranges.new.found c.add_parents.new.found
          (keys.2 ∙ ap (λ (f : Found). together f keys.0) c.requires) cardinal.2 ordinal.2 ranges.2 parents.2,
    ))
    c.add_parents.ensures
