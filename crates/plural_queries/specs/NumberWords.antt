-- The words CONDITION, INTEGER and NUMBER of a command: a condition (UTS 35 Part 3, Plural Rules
-- Syntax), one or more digits, and a compact decimal (docs/NUMBERS.md).
--     ReadsConditionWord word answer      the condition that a word writes, or its fault
--     integer_of word      the integer, or the word's fault
--     ReadsNumberWord word answer      the number that a word writes, or its fault
use Rattle.std.specs.Prelude.{◌≡◌, ℕ, ◌≤◌, ◌^◌, ◌==◌, ◌&&◌, not, nat_lt, if◌then◌else◌, Bool, List, length, Result, Ok, Err}
use Rattle.std.specs.Char.{is_ascii_digit}
use Rattle.std.specs.List.{list_all}
use Rattle.std.specs.Str.Parse.{digits_value}
use Rattle.icu_plurals.specs.declared.DecimalError.{DecimalError}
use Rattle.icu_plurals.specs.declared.DecimalError.TheVariants as decimal
use Rattle.icu_plurals.specs.declared.provider.rules.reference.ParseError.{ParseError}
use Rattle.icu_plurals.specs.declared.provider.rules.reference.ast.Condition.{Condition as Tree}
use Rattle.icu_plurals.specs.Parser.{Reads, Faulty}
use Rattle.icu_plurals.specs.Places.{IsWithinLimit}
use Rattle.icu_plurals.specs.Lexer.{TextReads, TextFaulty}
use Rattle.icu_plurals.specs.SureChoice.{WritesNone, WritesOver}
use Rattle.icu_plurals.specs.Written.{CompactNumber, WritesCompact}
use Rattle.plural_queries.specs.declared.error.RunError.{RunError}
use Rattle.plural_queries.specs.declared.error.RunError.TheVariants.{Condition, Number}

-- the condition that the word is read as, or why it can't be read
abbrev pub ReadsConditionWord : List ℕ → Result Tree RunError → Type 0
ReadsConditionWord word (Ok condition) = TextReads Reads word condition
ReadsConditionWord word (Err e) = (fault : ParseError) × (e ≡ Condition fault) × TextFaulty Faulty word fault

-- one or more digits
abbrev pub is_numeral : List ℕ → Bool
is_numeral word = not (length word == 0) && list_all is_ascii_digit word

-- the number of a word of one or more digits; the form comes before the limit
abbrev pub integer_of : List ℕ → Result ℕ RunError
integer_of word =
    if not (is_numeral word) then Err (Number decimal.Syntax)
    else (if nat_lt (digits_value 10 word) (2 ^ 64) then Ok (digits_value 10 word) else Err (Number decimal.Limit))

-- the number that a word writes within the limits
abbrev pub IsNumberOf : List ℕ → CompactNumber → Type 0
IsNumberOf word x = WritesCompact word x × IsWithinLimit x.significand.absolute × (x.exponent ≤ 255)

-- why a word is no number: it is out of form, or what it writes is over a limit
abbrev pub IsNumberWordFault : List ℕ → DecimalError → Type 0
IsNumberWordFault word decimal.Syntax = WritesNone word
IsNumberWordFault word decimal.Limit = WritesOver word
IsNumberWordFault word decimal.Memory = ⊥

-- the number, or the fault
abbrev pub ReadsNumberWord : List ℕ → Result CompactNumber RunError → Type 0
ReadsNumberWord word (Ok x) = IsNumberOf word x
ReadsNumberWord word (Err e) = (fault : DecimalError) × (e ≡ Number fault) × IsNumberWordFault word fault
