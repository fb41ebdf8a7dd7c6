-- Not a definition of the subject: what is taken of an input and written at each step.
use Rattle.std.specs.Prelude.{◌≡◌, ◌⊎◌, ℕ, List, [], ◌++◌, Bool, Option, Result, Ok, Err, ⊤}
use Rattle.std.specs.Io.KnownBytes.{Appends}
use Rattle.icu_plurals.specs.FiveRules.{FiveRules}
use Rattle.plural_documents.specs.Inputs.{IsPartWritten}
use Rattle.number_lines.specs.InputLines.{input_lines_of}
use Rattle.number_lines.specs.NumberAnswers.{AreLineAnswers}
use Rattle.number_lines.specs.PrintedTexts.{PrintedText}
use Rattle.number_lines.specs.Inner.LineSteps.{IsAfterBytes}
use Rattle.number_lines.specs.declared.error.LinesError.{LinesError}
use Rattle.number_lines.specs.declared.error.LinesError.TheVariants.{Write, Memory}
use Rattle.number_lines.specs.declared.stream.Lines.{Lines}

-- the state after bytes, with what is printed written too
abbrev pub IsWrittenAfter : FiveRules → List ℕ → List ℕ → Lines → Type 0
IsWrittenAfter rules bytes text lines = IsAfterBytes rules bytes text lines × (lines.printed.text ≡ [])

-- some text is the answer to the first lines of the bytes, and what the writer took after `text` is
-- a beginning of the rest of it
abbrev pub IsBegunAfter : FiveRules → List ℕ → List ℕ → Option (List ℕ) → Option (List ℕ) → Type 0
IsBegunAfter rules bytes text old new =
    (done rest : List (List ℕ)) × (printed : PrintedText) × (more : List ℕ) × (input_lines_of bytes ≡ done ++ rest)
    × AreLineAnswers rules done printed × (printed.text ≡ text ++ more) × IsPartWritten old new more

-- bytes are taken, and the answers to the lines that end in them are written, or a beginning of
-- them
abbrev pub TakesAndWrites : FiveRules → List ℕ → Lines → Lines → Option (List ℕ) → Option (List ℕ) → Result ⊤ LinesError → Type 0
TakesAndWrites rules more lines new_lines old new (Ok done) =
    (bytes text : List ℕ) → IsWrittenAfter rules bytes text lines
    → (added : List ℕ) × Appends old new added × IsWrittenAfter rules (bytes ++ more) (text ++ added) new_lines
TakesAndWrites rules more lines new_lines old new (Err error) =
    ((error ≡ Memory) ⊎ (error ≡ Write))
    × ((bytes text : List ℕ) → IsWrittenAfter rules bytes text lines → IsBegunAfter rules (bytes ++ more) text old new)

-- the last line is answered
abbrev pub FinishesLines : FiveRules → Lines → Option (List ℕ) → Option (List ℕ) → Result Bool LinesError → Type 0
FinishesLines rules lines old new (Ok has_fault) =
    (bytes text : List ℕ) → IsWrittenAfter rules bytes text lines
    → (printed : PrintedText) × (added : List ℕ) × AreLineAnswers rules (input_lines_of bytes) printed × (printed.text ≡ text ++ added)
    × (has_fault ≡ printed.has_fault) × Appends old new added
FinishesLines rules lines old new (Err error) =
    ((error ≡ Memory) ⊎ (error ≡ Write))
    × ((bytes text : List ℕ) → IsWrittenAfter rules bytes text lines → IsBegunAfter rules bytes text old new)
