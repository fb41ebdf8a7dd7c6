use Rattle.serde_json.specs.View.{members_view}
use Rattle.plural_documents.proofs.MemberSteps.{Completes}
use Rattle.document_report.specs.DocumentReport.{IsFoundInRules}
use Rattle.document_report.specs.FoundInDocuments.{nothing_found, together}
use Rattle.document_report.proofs.languages.add_languages.Given as goal

-- what is found in the remaining languages completes what was found so far
abbrev pub invariant-loop-key : goal.invariant-loop-key
invariant-loop-key l =
    Completes nothing_found together (IsFoundInRules l.part) (members_view l.key-iterator) (members_view l.members.entries) l.found
    l.initial.found
