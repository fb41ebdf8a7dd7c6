use Rattle.std.proofs.Common.{◌≡◌, map}
use Rattle.plural_documents.specs.RepeatedKeys.{repeated_view}
use Rattle.document_notes.specs.DocumentNotes.{on_key}
use Rattle.document_notes.proofs.key_notes.notes_on.Given as goal

-- the notes so far
abbrev pub invariant-loop-repeated : goal.invariant-loop-repeated
invariant-loop-repeated l = l.notes ≡ map on_key (map repeated_view l.yielded)
