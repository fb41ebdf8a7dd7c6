use Rattle.serde_json.specs.View.{members_view}
use Rattle.plural_documents.proofs.MemberSteps.{Completes}
use Rattle.plural_documents.proofs.members.add_members.Given as goal

-- what is found in the remaining members completes what was found so far
abbrev pub invariant-loop-key : goal.invariant-loop-key
invariant-loop-key g l =
    Completes g.F.Findings.nothing g.F.Findings.together (g.C.MemberCheck.finds l.check) (members_view l.key-iterator)
    (members_view l.members.entries) l.found l.initial.found
