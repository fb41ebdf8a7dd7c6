use Rattle.std.proofs.Common.{ap, ◌∙◌}
use Rattle.serde_json.specs.Written.{has_float}
use Rattle.document_notes.specs.DocumentNotes.{note_view}
use Rattle.document_formats.proofs.NoFloats.{note_without}
use Rattle.document_formats.proofs.noted_objects.NoteObjectsLinePrinterDocumentNote.push.Goals as goal

pub push_value-requires : goal.push_value-requires
push_value-requires c = ap has_float c.in_ok-value.ensures ∙ note_without c.args.self.now.file.now (note_view c.args.note.now)
