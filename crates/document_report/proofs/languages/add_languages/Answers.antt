use Rattle.std.proofs.Common.{string_bytes, ap, subst, ◌∙◌}
use Rattle.serde_json.specs.View.{view, members_view}
use Rattle.document_report.specs.DocumentReport.{IsFoundInRules}
use Rattle.document_report.specs.FoundInDocuments.{HasGrownInDocument, nothing_found, together}
use Rattle.document_report.proofs.FoundTogether.{together-nothing, together_assoc}
use Rattle.plural_documents.proofs.MemberSteps.{Completes, begins, ends, goes_on}
use Rattle.document_report.proofs.languages.add_languages.Goals as goal

pub loop-key-init : goal.loop-key-init
loop-key-init c =
    begins nothing_found together (IsFoundInRules c.args.part) (members_view c.args.members.now.entries) c.args.found.now _
    (ap members_view (c.into_iter-key-iterator.ensures.into_iter_gives ∙ c.iter-key-items.ensures.rest))

pub loop-key-preserved : goal.loop-key-preserved
loop-key-preserved c =
    let Is = IsFoundInRules c.args.part in
    let all = members_view c.args.members.now.entries in
    let value = view c.in-Some.value.now in
    goes_on nothing_found together Is all c.args.found.now together_assoc (string_bytes c.in-Some.key.now) value
    (members_view c.next.new.self) c.loop-key.found c.add_language.new.found
    (subst (λ es. Completes nothing_found together Is (members_view es) all c.loop-key.found c.args.found.now) c.in-Some.ensures.steps
    c.loop-key.invariant)
    (subst (λ key. HasGrownInDocument (Is key value) c.loop-key.found c.add_language.new.found) c.as_str.ensures.value
    c.in_ok-add_language.ensures)

pub returns : goal.returns
returns c =
    let Is = IsFoundInRules c.args.part in
    let all = members_view c.args.members.now.entries in
    ends nothing_found together Is all c.args.found.now together-nothing c.loop-key.found
    (subst (λ es. Completes nothing_found together Is (members_view es) all c.loop-key.found c.args.found.now) c.in-None.ensures.steps.0
    c.loop-key.invariant)
