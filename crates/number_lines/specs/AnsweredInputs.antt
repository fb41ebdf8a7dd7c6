-- What is read of an input, and what is written of the answers to its lines.
--     AnswersInput rules before left old new result      the answers to all lines, or a beginning
--     WritesPrinted printed old new result      a text, or a beginning of it
use Rattle.std.specs.Prelude.{◌≡◌, ℕ, List, ◌++◌, Bool, Option, Result, Ok, Err, codes}
use Rattle.std.specs.Io.KnownBytes.{Appends, Consumes, IsAtEnd}
use Rattle.icu_plurals.specs.FiveRules.{FiveRules}
use Rattle.plural_documents.specs.Inputs.{IsPartWritten}
use Rattle.number_lines.specs.InputLines.{AreEndedIn, input_lines_of}
use Rattle.number_lines.specs.NumberAnswers.{AreLineAnswers}
use Rattle.number_lines.specs.PrintedTexts.{PrintedText}
use Rattle.number_lines.specs.declared.error.LinesError.{LinesError}
use Rattle.number_lines.specs.declared.error.LinesError.TheVariants.{Read, Write, Memory}

-- Some of it was taken, and what was written is the answers to its first lines, or a beginning of
-- them.
abbrev pub IsAnsweredInPart : FiveRules → Option (List ℕ) → Option (List ℕ) → Option (List ℕ) → Option (List ℕ) → Type 0
IsAnsweredInPart rules before left old new =
    (numbers : List ℕ) × (done rest : List (List ℕ)) × (printed : PrintedText) × Consumes before left numbers
    × (input_lines_of numbers ≡ done ++ rest) × AreLineAnswers rules done printed × IsPartWritten old new printed.text

-- The reader failed: some of it was taken, and the lines that have ended there are answered.
abbrev pub IsCutOff : FiveRules → Option (List ℕ) → Option (List ℕ) → Option (List ℕ) → Option (List ℕ) → Type 0
IsCutOff rules before left old new =
    (numbers : List ℕ) × (ended : List (List ℕ)) × (printed : PrintedText) × Consumes before left numbers × AreEndedIn numbers ended
    × AreLineAnswers rules ended printed × Appends old new printed.text

-- the answers to all its lines, or a beginning of them
unfoldable pub AnswersInput : FiveRules → Option (List ℕ) → Option (List ℕ) → Option (List ℕ) → Option (List ℕ) → Result Bool LinesError → Type 0
AnswersInput rules before left old new (Ok has_fault) =
    (numbers : List ℕ) × (printed : PrintedText) × Consumes before left numbers × IsAtEnd left
    × AreLineAnswers rules (input_lines_of numbers) printed × (has_fault ≡ printed.has_fault) × Appends old new printed.text
AnswersInput rules before left old new (Err Read) = IsCutOff rules before left old new
AnswersInput rules before left old new (Err Write) = IsAnsweredInPart rules before left old new
AnswersInput rules before left old new (Err Memory) = IsAnsweredInPart rules before left old new

-- the text, or a beginning of it
abbrev pub WritesPrinted : PrintedText → Option (List ℕ) → Option (List ℕ) → Result Bool LinesError → Type 0
WritesPrinted printed old new (Ok has_fault) = (has_fault ≡ printed.has_fault) × Appends old new printed.text
WritesPrinted printed old new (Err error) = (error ≡ Write) × IsPartWritten old new printed.text

-- what an error prints
abbrev pub lines_error_text : LinesError → List ℕ
lines_error_text Read = codes "cannot read numbers"
lines_error_text Write = codes "cannot write output"
lines_error_text Memory = codes "out of memory"
