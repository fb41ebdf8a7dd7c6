-- The notes of the keys under which rules are found, where these aren't the locales that are asked
-- for.
--     key_note_text place part locale key      the note of a key
--     IsKeyNote document place part locale note      that of a locale's first key, if it has one
--     IsNote document place part locale note      the same, if the language is known
--     AreFileNotes document files notes      those of the locales of files of messages
--     IsNoted AreNotes IsResult input old new result      a result, and what was written of its
--         notes
use Rattle.std.specs.Prelude.{◌≡◌, ◌⊎◌, ℕ, List, [], ◌∷◌, ◌++◌, codes, Bool, true, false, ◌||◌, bytes_eq, Option, Some, None, Result, Ok, Err, if◌then◌else◌}
use Rattle.std.specs.Io.KnownBytes.{Appends, Keeps}
use Rattle.std.specs.Option.{option_and_then}
use Rattle.message_report.specs.declared.file.MessageFile.{MessageFile}
use Rattle.plural_documents.specs.Inputs.{IsPartWritten}
use Rattle.plural_fallback.specs.LocalesJson.{part_name}
use Rattle.plural_fallback.specs.declared.error.FallbackError.{FallbackError}
use Rattle.plural_fallback.specs.declared.locales.Part.{Part}
use Rattle.plural_fallback.specs.declared.locales.Part.TheVariants.{Cardinal, Ordinal}
use Rattle.serde_json.specs.Data.{Data, Members, no_members, member}
use Rattle.serde_json.specs.Find.{get, as_object}
use Rattle.serde_json.specs.View.{view}
use Rattle.rules_outline.specs.LocaleKeys.{HasNoKey, IsKeyOf}
use Rattle.form_commands.specs.FormsAnswers.{IsDocumentIn}
use Rattle.form_commands.specs.Languages.{IsKnownForPart, IsUnknownForPart}
use Rattle.form_commands.specs.declared.error.FormsError.{FormsError}
use Rattle.form_commands.specs.declared.error.Verdict.{Verdict}

-- ---- One locale

-- `plural_forms: pt-AO: cardinal rules of pt-PT`; of a key that is the locale, nothing. Before the
-- locale is the place, if there is one.
abbrev pub key_note_text : List ℕ → Part → List ℕ → List ℕ → List ℕ
key_note_text place part locale key =
    if bytes_eq key locale then []
    else (codes "plural_forms: " ++ (place ++ (locale ++ (codes ": " ++ (part_name part ++ (codes " rules of " ++ (key ++ codes "\n")))))))

-- that of the first key of the locale's chain, if there is one
abbrev pub IsKeyNote : Data → List ℕ → Part → List ℕ → List ℕ → Type 0
IsKeyNote document place part locale note =
    ((key : List ℕ) × IsKeyOf document part locale key × (note ≡ key_note_text place part locale key))
    ⊎ ((reason : FallbackError) × HasNoKey document part locale reason × (note ≡ []))

-- an unknown language has no rules, and so no note
abbrev pub IsNote : Data → List ℕ → Part → List ℕ → List ℕ → Type 0
IsNote document place part locale note =
    (IsKnownForPart document part locale × IsKeyNote document place part locale note) ⊎ (IsUnknownForPart document part locale × (note ≡ []))

-- ---- Files of messages

-- there is something under a key
abbrev pub has_any_member : Option Members → Bool
has_any_member None = false
has_any_member (Some no_members) = false
has_any_member (Some (member key value others)) = true

abbrev pub has_some : List ℕ → Data → Bool
has_some name value = has_any_member (option_and_then as_object (get name value))

-- a locale has messages of the part, or patterns
abbrev pub is_asked : Part → Data → Bool
is_asked part value = has_some (part_name part) value || has_some (codes "patterns") value

-- the note, if it is asked for
abbrev pub IsNoteIf : Bool → (List ℕ → Type 0) → List ℕ → Type 0
IsNoteIf true Is note = Is note
IsNoteIf false Is note = note ≡ []

-- of a locale with its messages: for cardinal and for ordinal numbers
abbrev pub AreLocaleNotes : Data → List ℕ → List ℕ → Data → List ℕ → Type 0
AreLocaleNotes document place locale value notes =
    (cardinal ordinal : List ℕ) × IsNoteIf (is_asked Cardinal value) (IsNote document place Cardinal locale) cardinal
    × IsNoteIf (is_asked Ordinal value) (IsNote document place Ordinal locale) ordinal × (notes ≡ cardinal ++ ordinal)

abbrev pub AreMemberNotes : Data → List ℕ → Members → List ℕ → Type 0
AreMemberNotes document place no_members notes = notes ≡ []
AreMemberNotes document place (member locale value members) notes =
    (first rest : List ℕ) × AreLocaleNotes document place locale value first × AreMemberNotes document place members rest
    × (notes ≡ first ++ rest)

-- of a document of messages; one that is no object has no locales
abbrev pub AreMessageNotes : Data → List ℕ → Option Members → List ℕ → Type 0
AreMessageNotes document place None notes = notes ≡ []
AreMessageNotes document place (Some locales) notes = AreMemberNotes document place locales notes

-- of a file: its name is the place
abbrev pub IsFileNote : Data → MessageFile → List ℕ → Type 0
IsFileNote document file notes = AreMessageNotes document (file.name.now ++ codes ": ") (as_object (view file.document.now)) notes

-- of files, in their order
abbrev pub AreFileNotes : Data → List MessageFile → List ℕ → Type 0
AreFileNotes document [] notes = notes ≡ []
AreFileNotes document (file ∷ files) notes =
    (first rest : List ℕ) × IsFileNote document file first × AreFileNotes document files rest × (notes ≡ first ++ rest)

-- ---- What is written

-- the notes, if there is an answer; else none, or, after the whole answer, a beginning of them
unfoldable pub AreNoted : (Data → List ℕ → Type 0) → (Result Verdict FormsError → Type 0) → List ℕ → Option (List ℕ) → Option (List ℕ)
    → Result Verdict FormsError → Type 0
AreNoted AreNotes IsResult input old new (Ok verdict) =
    (document : Data) × (notes : List ℕ) × IsDocumentIn input document × AreNotes document notes × Appends old new notes
AreNoted AreNotes IsResult input old new (Err error) =
    Keeps old new
    ⊎ ((verdict : Verdict) × IsResult (Ok verdict) × (document : Data) × (notes : List ℕ) × IsDocumentIn input document
    × AreNotes document notes × IsPartWritten old new notes)

-- a result, and its notes
abbrev pub IsNoted : (Data → List ℕ → Type 0) → (Result Verdict FormsError → Type 0) → List ℕ → Option (List ℕ) → Option (List ℕ)
    → Result Verdict FormsError → Type 0
IsNoted AreNotes IsResult input old new result = IsResult result × AreNoted AreNotes IsResult input old new result
