use Rattle.std.proofs.Common.{[]}
use Rattle.serde_json.specs.View.{members_view}
use Rattle.plural_documents.proofs.MemberSteps.{Completes}
use Rattle.document_notes.specs.DocumentNotes.{IsNotedInRules, notes_together}
use Rattle.document_notes.proofs.language_notes.add_languages.Given as goal

-- what is noted of the remaining languages completes what was noted so far
abbrev pub invariant-loop-key : goal.invariant-loop-key
invariant-loop-key l =
    Completes [] notes_together (IsNotedInRules l.part) (members_view l.key-iterator) (members_view l.members.entries) l.found
    l.initial.found
