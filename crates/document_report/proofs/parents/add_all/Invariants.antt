use Rattle.serde_json.specs.View.{members_view}
use Rattle.document_members.specs.ChainSteps.{AreKnown, short_next}
use Rattle.document_members.specs.ParentRows.{named_parent}
use Rattle.document_report.specs.ParentFaults.{IsFoundInParent}
use Rattle.document_report.specs.FoundInDocuments.{nothing_found, together}
use Rattle.plural_documents.proofs.MemberSteps.{Completes}
use Rattle.document_report.proofs.parents.add_all.Given as goal

-- what is known holds, and what is found in the remaining members completes what was found so far
abbrev pub invariant-loop-key : goal.invariant-loop-key
invariant-loop-key l =
    AreKnown (short_next (named_parent l.parents)) l.chains
    × Completes nothing_found together (IsFoundInParent (named_parent l.parents)) (members_view l.key-iterator)
    (members_view l.members.entries) l.found l.initial.found
