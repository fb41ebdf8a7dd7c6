-- The code of each note on a document, a word that stays the same.
--     note_code_of note      the code of a note
--     note_code_name code      its word
use Rattle.std.specs.Prelude.{ℕ, ◌+◌, List, [], ◌∷◌, codes, length, map}
use Rattle.document_notes.specs.DocumentNotes.{NoteAt, on_key, on_rule}
use Rattle.finding_formats.specs.FindingCodes.{place_among}
use Rattle.rule_notes.specs.declared.cause.Cause.{Cause}
use Rattle.rule_notes.specs.declared.cause.Cause.TheVariants as cause
use Rattle.document_formats.specs.DocumentCodes.{all_document_codes}
use Rattle.document_formats.specs.declared.note_code.NoteCode.{NoteCode}
use Rattle.document_formats.specs.declared.note_code.NoteCode.TheVariants.{RepeatedKey, UpsideDown, NeverTrue, SameCondition, TooLate}

abbrev pub code_of_cause : Cause → NoteCode
code_of_cause (cause.UpsideDown start end) = UpsideDown
code_of_cause (cause.Empty relation) = NeverTrue
code_of_cause (cause.Alike category) = SameCondition
code_of_cause cause.Taken = TooLate

abbrev pub note_code_of : NoteAt → NoteCode
note_code_of (on_rule place note) = code_of_cause note.cause
note_code_of (on_key repeated) = RepeatedKey

abbrev pub note_code_name : NoteCode → List ℕ
note_code_name RepeatedKey = codes "repeated-key"
note_code_name UpsideDown = codes "upside-down"
note_code_name NeverTrue = codes "never-true"
note_code_name SameCondition = codes "same-condition"
note_code_name TooLate = codes "too-late"

-- what a code means, in a sentence
abbrev pub note_code_meaning : NoteCode → List ℕ
note_code_meaning RepeatedKey = codes "A key stands more than once in an object."
note_code_meaning UpsideDown = codes "A range of a rule is upside down."
note_code_meaning NeverTrue = codes "A relation of a rule is never true."
note_code_meaning SameCondition = codes "A rule has the condition of an earlier one."
note_code_meaning TooLate = codes "Earlier rules have all numbers of a rule."

-- all codes, in the order of the list of rules
abbrev pub all_note_codes : List NoteCode
all_note_codes = RepeatedKey ∷ UpsideDown ∷ NeverTrue ∷ SameCondition ∷ TooLate ∷ []

-- its place in that list, behind the codes of findings
abbrev pub note_code_place : NoteCode → ℕ
note_code_place code = length all_document_codes + place_among (note_code_name code) (map note_code_name all_note_codes)
