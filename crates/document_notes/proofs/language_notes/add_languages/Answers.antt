use Rattle.std.proofs.Common.{[], append_assoc, string_bytes, ap, subst, ◌∙◌}
use Rattle.std.proofs.lemmas.List.{append-nil}
use Rattle.serde_json.specs.View.{view, members_view}
use Rattle.plural_documents.proofs.MemberSteps.{Completes, begins, ends, goes_on}
use Rattle.document_notes.specs.DocumentNotes.{Gathers, IsNotedInRules, notes_together}
use Rattle.document_notes.proofs.language_notes.add_languages.Goals as goal

pub loop-key-init : goal.loop-key-init
loop-key-init c =
    begins [] notes_together (IsNotedInRules c.args.part) (members_view c.args.members.now.entries) c.args.found.now _
    (ap members_view (c.into_iter-key-iterator.ensures.into_iter_gives ∙ c.iter-key-items.ensures.rest))

pub loop-key-preserved : goal.loop-key-preserved
loop-key-preserved c =
    let Is = IsNotedInRules c.args.part in
    let all = members_view c.args.members.now.entries in
    let value = view c.in-Some.value.now in
    goes_on [] notes_together Is all c.args.found.now append_assoc (string_bytes c.in-Some.key.now) value
    (members_view c.next.new.self) c.loop-key.found c.add_language.new.found
    (subst (λ es. Completes [] notes_together Is (members_view es) all c.loop-key.found c.args.found.now) c.in-Some.ensures.steps
    c.loop-key.invariant)
    (subst (λ key. Gathers (Is key value) c.loop-key.found c.add_language.new.found) c.as_str.ensures.value c.in_ok-add_language.ensures)

pub returns : goal.returns
returns c =
    let Is = IsNotedInRules c.args.part in
    let all = members_view c.args.members.now.entries in
    ends [] notes_together Is all c.args.found.now append-nil c.loop-key.found
    (subst (λ es. Completes [] notes_together Is (members_view es) all c.loop-key.found c.args.found.now) c.in-None.ensures.steps.0
    c.loop-key.invariant)
