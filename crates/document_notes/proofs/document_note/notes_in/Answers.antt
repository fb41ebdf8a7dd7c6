use Rattle.serde_json.specs.View.{view}
use Rattle.document_notes.proofs.Gathered.{both_parts}
use Rattle.document_notes.proofs.document_note.notes_in.Goals as goal

pub returns : goal.returns
returns c =
    both_parts (view c.args.document.now) c.nothing-notes.result c.add_part.new.notes c.add_part-2.new.notes c.nothing-notes.ensures
    c.in_ok-add_part.ensures c.in_ok-add_part-2.ensures
