-- What the words of a command line ask of `plurals_check`, or which of them is wrong.
--     asked_by words      what is asked, or the fault
--     word_fault_text fault      what is printed for the fault
use Rattle.std.specs.Prelude.{ℕ, List, [], ◌∷◌, ◌++◌, bytes_eq, codes, nat_eq, Option, Some, None, Result, Ok, Err, if◌then◌else◌}
use Rattle.std.specs.List.{starts_with}
use Rattle.finding_formats.specs.FindingFormats.{format_named}
use Rattle.finding_formats.specs.declared.format.Format.{Format}
use Rattle.finding_formats.specs.declared.format.Format.TheVariants.{Text}

-- ---- the words that name only a format

-- without words it is text; `--format json`
abbrev pub format_in : List (List ℕ) → Option Format
format_in [] = Some Text
format_in (option ∷ word ∷ []) = if bytes_eq option (codes "--format") then format_named word else None
format_in words = None

pub data Asked : Type 0 where
  help : Asked
  version : Asked
  -- in a format, of these files; without any, of standard input
  reports : Format → List (List ℕ) → Asked

-- no word after `--format`; one that is no format; one that is no option, or not there
pub data WordFault : Type 0 where
  no_format : WordFault
  bad_format : List ℕ → WordFault
  bad_option : List ℕ → WordFault

-- the first word that begins with `--`
abbrev pub option_among : List (List ℕ) → Option (List ℕ)
option_among [] = None
option_among (word ∷ words) = if starts_with nat_eq word (codes "--") then Some word else option_among words

abbrev pub unless_option : Option (List ℕ) → Asked → Result Asked WordFault
unless_option None asked = Ok asked
unless_option (Some word) asked = Err (bad_option word)

abbrev pub asked_of_files : Format → List (List ℕ) → Result Asked WordFault
asked_of_files format files = unless_option (option_among files) (reports format files)

abbrev pub asked_in_format : Option Format → List ℕ → List (List ℕ) → Result Asked WordFault
asked_in_format None word files = Err (bad_format word)
asked_in_format (Some format) word files = asked_of_files format files

-- by the word after `--format` and those behind it
abbrev pub asked_by_format : List ℕ → List (List ℕ) → Result Asked WordFault
asked_by_format word files = asked_in_format (format_named word) word files

-- a word alone, and any other words
abbrev pub asked_by_word : List ℕ → Result Asked WordFault
asked_by_word word =
    if bytes_eq word (codes "--help") then Ok help
    else if bytes_eq word (codes "--version") then Ok version
    else if bytes_eq word (codes "--format") then Err no_format
    else asked_of_files Text (word ∷ [])

abbrev pub asked_by : List (List ℕ) → Result Asked WordFault
asked_by [] = asked_of_files Text []
asked_by (word ∷ []) = asked_by_word word
asked_by (option ∷ word ∷ files) =
    if bytes_eq option (codes "--format") then asked_by_format word files
    else asked_of_files Text (option ∷ word ∷ files)

abbrev pub word_fault_text : WordFault → List ℕ
word_fault_text no_format = codes "--format: no format is named"
word_fault_text (bad_format word) = codes "--format " ++ (word ++ codes ": not a format")
word_fault_text (bad_option word) = word ++ codes ": not an option here"
