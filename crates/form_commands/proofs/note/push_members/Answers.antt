use Rattle.std.proofs.Common.{ℕ, List, string_bytes, ap, subst, ◌∙◌}
use Rattle.serde_json.specs.View.{members_view, view}
use Rattle.form_commands.specs.Inner.ConditionSteps.{Grows}
use Rattle.form_commands.specs.KeyNotes.{AreLocaleNotes}
use Rattle.form_commands.proofs.NoteLemmas.{MembersLeft, members_begin, members_end, members_go_on}
use Rattle.form_commands.proofs.note.push_members.Goals as goal

pub loop-locale-init : goal.loop-locale-init
loop-locale-init c =
    members_begin (view c.args.document.now) c.args.place.now (members_view c.args.locales.now.entries) _ (string_bytes c.args.notes.now)
    (ap members_view (c.into_iter-locale-iterator.ensures.into_iter_gives ∙ c.iter-locale-items.ensures.rest))

pub loop-locale-preserved : goal.loop-locale-preserved
loop-locale-preserved c =
    let document = view c.args.document.now in
    let place = c.args.place.now in
    let all = members_view c.args.locales.now.entries in
    let value = view c.in-Some.value.now in
    let first = string_bytes c.args.notes.now in
    let now = string_bytes c.loop-locale.notes in
    let next = string_bytes c.push_locale.new.notes in
    members_go_on document place all first (string_bytes c.in-Some.locale.now) value (members_view c.next.new.self) now next
    (subst (λ es. MembersLeft document place (members_view es) all now first) c.in-Some.ensures.steps c.loop-locale.invariant)
    (subst (λ (locale : List ℕ). Grows (AreLocaleNotes document place locale value) now next) c.as_str.ensures.value
    c.in_ok-push_locale.ensures)

pub returns : goal.returns
returns c =
    let document = view c.args.document.now in
    let place = c.args.place.now in
    let all = members_view c.args.locales.now.entries in
    let first = string_bytes c.args.notes.now in
    let now = string_bytes c.loop-locale.notes in
    members_end document place all first now
    (subst (λ es. MembersLeft document place (members_view es) all now first) c.in-None.ensures.steps.0 c.loop-locale.invariant)
