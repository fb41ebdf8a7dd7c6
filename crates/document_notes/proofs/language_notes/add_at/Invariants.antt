use Rattle.std.proofs.Common.{◌≡◌, ◌++◌, map}
use Rattle.document_report.specs.DocumentPlaces.{locale_place_view}
use Rattle.document_notes.specs.DocumentNotes.{on_rule}
use Rattle.document_notes.proofs.language_notes.add_at.Given as goal

-- the notes so far
abbrev pub invariant-loop-note : goal.invariant-loop-note
invariant-loop-note l = l.found ≡ l.initial.found ++ map (on_rule (locale_place_view l.place)) l.yielded
