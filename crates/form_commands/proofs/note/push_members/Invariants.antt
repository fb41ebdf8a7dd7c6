use Rattle.std.proofs.Common.{string_bytes}
use Rattle.serde_json.specs.View.{members_view, view}
use Rattle.form_commands.proofs.NoteLemmas.{MembersLeft}
use Rattle.form_commands.proofs.note.push_members.Given as goal

-- the notes of the remaining locales complete those so far
abbrev pub invariant-loop-locale : goal.invariant-loop-locale
invariant-loop-locale l =
    MembersLeft (view l.document) l.place (members_view l.locale-iterator) (members_view l.locales.entries) (string_bytes l.notes)
    (string_bytes l.initial.notes)
