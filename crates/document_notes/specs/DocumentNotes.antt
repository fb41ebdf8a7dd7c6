-- The notes of a document (docs/JSON.md).
--     NoteAt      a note on a rule of a locale, or on a key
--     AreNotesIn document notes      the notes of the rules for cardinal, then of those for ordinal
--         numbers, by locale
--     AreKeyNotesIn bytes notes      those on the keys that stand more than once in an object
--     AreNotesOfBytes bytes document notes      these, and then those of the rules
--     note_view note      a note of the code
use Rattle.std.specs.Prelude.{◌≡◌, ℕ, List, [], ◌++◌, map, None, Result, Ok, Err, ⊤}
use Rattle.document_report.specs.CheckedDocument.{members_at}
use Rattle.document_report.specs.DocumentPlaces.{LocalePlace, locale_place_view}
use Rattle.document_report.specs.DocumentReport.{all_texts_in}
use Rattle.plural_documents.specs.Steps.{HasGrownBy, IsFoundInMembers}
use Rattle.plural_documents.specs.Inputs.{json_of}
use Rattle.plural_documents.specs.RepeatedKeys.{AreRepeatedInBytes, RepeatedAt, repeated_view}
use Rattle.plural_documents.specs.declared.JsonTextError.{JsonTextError}
use Rattle.plural_documents.specs.declared.JsonTextError.TheVariants as fault
use Rattle.plural_fallback.specs.declared.locales.Part.{Part}
use Rattle.plural_fallback.specs.declared.locales.Part.TheVariants.{Cardinal, Ordinal}
use Rattle.rule_notes.specs.RuleNotes.{AreNotesOf}
use Rattle.rule_notes.specs.declared.note.Note.{Note}
use Rattle.serde_json.specs.Data.{Data}
use Rattle.document_notes.specs.declared.document_note.DocumentNote.{DocumentNote}
use Rattle.document_notes.specs.declared.document_note.DocumentNote.TheVariants as code

-- on a rule of a locale; on a key, notes_together those that lead to its object
pub data NoteAt : Type 0 where
  on_rule : LocalePlace → Note → NoteAt
  on_key : RepeatedAt → NoteAt

-- one list after another
abbrev pub notes_together : List NoteAt → List NoteAt → List NoteAt
notes_together first second = first ++ second

-- the list has grown by some notes
abbrev pub Gathers : (List NoteAt → Type 0) → List NoteAt → List NoteAt → Type 0
Gathers = HasGrownBy notes_together

-- ---- A document

abbrev pub IsNotedInRules : Part → List ℕ → Data → List NoteAt → Type 0
IsNotedInRules part locale value notes =
    (own : List Note) × AreNotesOf (all_texts_in value).five own × (notes ≡ map (on_rule (record { part = part; locale = locale })) own)

abbrev pub IsNotedInPart : Data → Part → List NoteAt → Type 0
IsNotedInPart document part = IsFoundInMembers [] notes_together (IsNotedInRules part) (members_at part document)

abbrev pub AreNotesIn : Data → List NoteAt → Type 0
AreNotesIn document notes =
    (cardinal ordinal : List NoteAt) × IsNotedInPart document Cardinal cardinal × IsNotedInPart document Ordinal ordinal
    × (notes ≡ notes_together cardinal ordinal)

-- ---- Its bytes

-- a note on each key that stands more than once in an object
abbrev pub AreKeyNotesIn : List ℕ → List NoteAt → Type 0
AreKeyNotesIn bytes notes = (found : List RepeatedAt) × AreRepeatedInBytes bytes found × (notes ≡ map on_key found)

-- those of the value that the bytes write; or they write none, or memory ran out
abbrev pub GivesKeyNotes : List ℕ → Result (List NoteAt) JsonTextError → Type 0
GivesKeyNotes bytes (Ok notes) = AreKeyNotesIn bytes notes
GivesKeyNotes bytes (Err fault.Json) = json_of bytes ≡ None
GivesKeyNotes bytes (Err fault.Memory) = ⊤

-- those on the keys, and then those of the rules
abbrev pub AreNotesOfBytes : List ℕ → Data → List NoteAt → Type 0
AreNotesOfBytes bytes document notes =
    (on_keys on_rules : List NoteAt) × AreKeyNotesIn bytes on_keys × AreNotesIn document on_rules × (notes ≡ notes_together on_keys on_rules)

-- ---- Of the code

abbrev pub note_view : DocumentNote → NoteAt
note_view (code.Rule place note) = on_rule (locale_place_view place) note
note_view (code.Key repeated) = on_key (repeated_view repeated)
