-- The questions of the program, and the words that ask them.
--     of_words words      the question, if the words are one
use Rattle.std.specs.Prelude.{ℕ, List, [], ◌∷◌, codes, Bool, true, false, ◌&&◌, ◌||◌, not, Option, Some, None, option_map, option_and_then, is_some, bytes_eq, nat_eq, if◌then◌else◌}
use Rattle.std.specs.List.{list_any, starts_with}
use Rattle.plural_fallback.specs.declared.locales.Part.{Part}
use Rattle.plural_fallback.specs.declared.locales.Part.TheVariants.{Cardinal, Ordinal}
use Rattle.finding_formats.specs.FindingFormats.{format_named}
use Rattle.finding_formats.specs.declared.format.Format.{Format}
use Rattle.finding_formats.specs.declared.format.Format.TheVariants.{Text}

-- the part whose rules are asked for, the locale, and the file after `--rules`
pub record Wanted : Type 0 where
  pub part : Part
  pub locale : List ℕ
  pub file : Option (List ℕ)

-- --help, --version, list LOCALE, gettext LOCALE, category LOCALE NUMBER.., check FILE.. with the
-- file after `--rules` and the format of its report
pub data Question : Type 0 where
  help : Question
  version : Question
  list : Wanted → Question
  gettext : Wanted → Question
  category : Wanted → List (List ℕ) → Question
  check : Option (List ℕ) → Format → List (List ℕ) → Question

-- ---- Options

-- whether `--ordinal` is at the front, and the words after it
pub record PartAndRest : Type 0 where
  pub part : Part
  pub rest : List (List ℕ)

abbrev pub in_part : Part → List (List ℕ) → PartAndRest
in_part part rest = record { part = part; rest = rest }

abbrev pub part_of_words : List (List ℕ) → PartAndRest
part_of_words [] = in_part Cardinal []
part_of_words (first ∷ rest) = if bytes_eq first (codes "--ordinal") then in_part Ordinal rest else in_part Cardinal (first ∷ rest)

-- the file that `--rules` at the front names, and the words after it
pub record FileAndRest : Type 0 where
  pub file : Option (List ℕ)
  pub rest : List (List ℕ)

abbrev pub with_file : Option (List ℕ) → List (List ℕ) → FileAndRest
with_file file rest = record { file = file; rest = rest }

abbrev pub rules_file_of : List (List ℕ) → FileAndRest
rules_file_of (first ∷ file ∷ rest) =
    if bytes_eq first (codes "--rules") then with_file (Some file) rest else with_file None (first ∷ file ∷ rest)
rules_file_of words = with_file None words

-- the format that `--format` at the front names, lines without it, and the words after it
pub record FormatAndRest : Type 0 where
  pub format : Format
  pub rest : List (List ℕ)

abbrev pub with_format : Format → List (List ℕ) → FormatAndRest
with_format format rest = record { format = format; rest = rest }

-- none, if it names no format
abbrev pub report_format_of : List (List ℕ) → Option FormatAndRest
report_format_of (first ∷ word ∷ rest) =
    if bytes_eq first (codes "--format") then option_map (λ format. with_format format rest) (format_named word)
    else Some (with_format Text (first ∷ word ∷ rest))
report_format_of words = Some (with_format Text words)

-- the options at the front, and the words after them
pub record Options : Type 0 where
  pub part : Part
  pub file : Option (List ℕ)
  pub rest : List (List ℕ)

abbrev pub options_with : Option (List ℕ) → PartAndRest → Options
options_with file found = record { part = found.part; file = file; rest = found.rest }

-- `--ordinal`, and then `--rules FILE`; or, if `--ordinal` isn't first, these in the other order;
-- each may be absent
abbrev pub options_after : Part → FileAndRest → Options
options_after Ordinal found = options_with found.file (in_part Ordinal found.rest)
options_after part found = options_with found.file (part_of_words found.rest)

abbrev pub options_of : List (List ℕ) → Options
options_of words = options_after (part_of_words words).part (rules_file_of (part_of_words words).rest)

-- ---- Questions

abbrev pub has_option : List (List ℕ) → Bool
has_option words = list_any (λ word. starts_with nat_eq word (codes "--")) words

abbrev pub has_no_words : List (List ℕ) → Bool
has_no_words [] = true
has_no_words (word ∷ words) = false

abbrev pub of_word : List ℕ → Option Question
of_word word =
    if bytes_eq word (codes "--help") then Some help else (if bytes_eq word (codes "--version") then Some version else None)

abbrev pub wanted_by : List ℕ → Options → Wanted
wanted_by locale options = record { part = options.part; locale = locale; file = options.file }

-- a command, a locale and the words after it, of which those after the options begin no option
abbrev pub of_options : List ℕ → List ℕ → Options → Option Question
of_options command locale options =
    if bytes_eq command (codes "list") && has_no_words options.rest then Some (list (wanted_by locale options))
    else (if bytes_eq command (codes "gettext") && has_no_words options.rest then Some (gettext (wanted_by locale options))
    else (if bytes_eq command (codes "category") && not (has_option options.rest)
    then Some (category (wanted_by locale options) options.rest) else None))

abbrev pub of_command : List ℕ → List ℕ → List (List ℕ) → Option Question
of_command command locale words = of_options command locale (options_of words)

-- at least one file, and no further option
abbrev pub of_files : Option (List ℕ) → Format → List (List ℕ) → Option Question
of_files file format rest = if has_no_words rest || has_option rest then None else Some (check file format rest)

-- a file may be named behind the format
abbrev pub check_with_rules : Format → FileAndRest → Option Question
check_with_rules format found = of_files found.file format found.rest

-- `--rules FILE`, and then `--format FORMAT`, or these in the other order; each may be absent
abbrev pub check_behind_rules : List (List ℕ) → FileAndRest → Option Question
check_behind_rules words found =
    if is_some found.file then option_and_then (λ f. of_files found.file f.format f.rest) (report_format_of found.rest)
    else option_and_then (λ f. check_with_rules f.format (rules_file_of f.rest)) (report_format_of words)

-- the words after `check`
abbrev pub of_check : List (List ℕ) → Option Question
of_check words = check_behind_rules words (rules_file_of words)

-- any other command and the words after it
abbrev pub of_other : List ℕ → List (List ℕ) → Option Question
of_other command [] = of_word command
of_other command (locale ∷ words) = of_command command locale words

abbrev pub of_words : List (List ℕ) → Option Question
of_words [] = None
of_words (command ∷ words) = if bytes_eq command (codes "check") then of_check words else of_other command words
