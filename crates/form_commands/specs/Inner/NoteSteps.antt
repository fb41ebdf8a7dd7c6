-- Not a definition of the subject: notes are written after an answer.
use Rattle.std.specs.Prelude.{◌≡◌, ◌⊎◌, ℕ, List, [], IfOk, Option, Result, Ok, Err, String, string_bytes}
use Rattle.std.specs.Io.KnownBytes.{Appends, Keeps}
use Rattle.std.specs.declared.alloc.AllocError.{AllocError}
use Rattle.std.specs.declared.alloc.Global.{Global}
use Rattle.plural_fallback.specs.declared.error.FallbackError.{FallbackError}
use Rattle.plural_fallback.specs.declared.locales.Part.{Part}
use Rattle.plural_documents.specs.Inputs.{IsPartWritten}
use Rattle.rules_outline.specs.declared.outline.KeptRules.{KeptRules}
use Rattle.number_lines.specs.PrintedTexts.{PrintedText}
use Rattle.form_commands.specs.Inner.RunSteps.{WritesAnswer}
use Rattle.form_commands.specs.KeyNotes.{key_note_text}
use Rattle.form_commands.specs.declared.error.LanguageError.{LanguageError}
use Rattle.form_commands.specs.declared.error.FormsError.{FormsError}
use Rattle.form_commands.specs.declared.error.FormsError.TheVariants.{Write, Memory}
use Rattle.form_commands.specs.declared.error.Verdict.{Verdict}

-- the note of the key that is kept
abbrev pub note_of_key : Part → List ℕ → Result (String Global) FallbackError → List ℕ
note_of_key part locale (Ok key) = key_note_text [] part locale (string_bytes key)
note_of_key part locale (Err reason) = []

abbrev pub IsKeptNote : KeptRules → Part → List ℕ → List ℕ → Type 0
IsKeptNote kept part locale note = note ≡ note_of_key part locale kept.key

-- all notes, or that the writer failed; without an answer none
abbrev pub Notes : Result Verdict FormsError → List ℕ → Option (List ℕ) → Option (List ℕ) → Result Verdict FormsError → Type 0
Notes (Ok verdict) notes old new result =
    ((result ≡ Ok verdict) × Appends old new notes) ⊎ ((result ≡ Err Write) × IsPartWritten old new notes)
Notes (Err error) notes old new result = (result ≡ Err error) × Keeps old new

-- an answer of this kind, and the notes after it; or memory ran out before it
abbrev pub NotesAfter : (Result Verdict FormsError → Type 0) → (List ℕ → Type 0) → Option (List ℕ) → Option (List ℕ)
    → Result Verdict FormsError → Type 0
NotesAfter IsAnswer AreNotes old new result =
    ((answer : Result Verdict FormsError) × (notes : List ℕ) × IsAnswer answer × AreNotes notes × Notes answer notes old new result)
    ⊎ (IsAnswer (Err Memory) × (result ≡ Err Memory) × Keeps old new)

-- what is printed is written, or a fault and nothing at all
abbrev pub Writes : (Result PrintedText LanguageError → Type 0) → Option (List ℕ) → Option (List ℕ) → Result Verdict FormsError → Type 0
Writes IsPrinted old new result =
    (printed : Result (Result PrintedText LanguageError) AllocError) × IfOk printed IsPrinted × WritesAnswer printed old new result
