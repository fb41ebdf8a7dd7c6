-- The texts of errors, and the exit status of the program: 0, 1 if something is missing, or 2.
use Rattle.std.specs.Prelude.{ℕ, List, [], ◌++◌, codes, Bool, true, false, Option, Some, None}
use Rattle.std.specs.Fmt.{decimal}
use Rattle.icu_plurals.specs.PluralBaseErrors.{json_error_text}
use Rattle.plural_fallback.specs.LocalesJson.{part_name}
use Rattle.plural_fallback.specs.FirstKeys.{fallback_error_text}
use Rattle.plural_fallback.specs.declared.error.FallbackError.TheVariants as chain
use Rattle.form_commands.specs.declared.error.FormsError.{FormsError}
use Rattle.form_commands.specs.declared.error.FormsError.TheVariants as forms
use Rattle.form_commands.specs.declared.error.LanguageError.{LanguageError}
use Rattle.form_commands.specs.SimilarKeys.{similar_text}
use Rattle.form_commands.specs.declared.error.LanguageError.TheVariants.{NotFound, Refused, Unknown}
use Rattle.form_commands.specs.declared.error.Verdict.{Verdict}
use Rattle.form_commands.specs.declared.error.Verdict.TheVariants.{Complete, Noted, Faults}

-- ` at byte 2`, if there is a byte
abbrev pub at_byte : Option ℕ → List ℕ
at_byte None = []
at_byte (Some byte) = codes " at byte " ++ decimal byte

-- the part, the locale or the key, and the reason: `cardinal russian: no rules but those of root;
-- similar: ru`
abbrev pub language_error_text : LanguageError → List ℕ
language_error_text (NotFound part locale reason) = part_name part ++ codes " " ++ locale ++ codes ": " ++ fallback_error_text reason
language_error_text (Unknown part locale similar) =
    part_name part ++ (codes " " ++ (locale ++ (codes ": no rules but those of root" ++ similar_text similar)))
language_error_text (Refused part key reason byte) =
    part_name part ++ (codes " " ++ (key ++ (codes ": " ++ (json_error_text reason ++ at_byte byte))))

-- the chain ends without a key, or the language is unknown: the locale has no rules
abbrev pub language_status : LanguageError → ℕ
language_status (NotFound part locale chain.NotFound) = 1
language_status (Unknown part locale similar) = 1
language_status error = 2

abbrev pub forms_status : FormsError → ℕ
forms_status (forms.Language error) = language_status error
forms_status error = 2

-- the rules are at fault
abbrev pub is_of_rules : FormsError → Bool
is_of_rules forms.Rules = true
is_of_rules forms.TooLong = true
is_of_rules forms.Json = true
is_of_rules (forms.Refused error) = true
is_of_rules (forms.Language error) = true
is_of_rules forms.Numbers = false
is_of_rules forms.Write = false
is_of_rules forms.Memory = false

abbrev pub verdict_status : Verdict → ℕ
verdict_status Complete = 0
verdict_status Noted = 0
verdict_status Faults = 1

-- where notes count as faults
abbrev pub strict_verdict : Verdict → Verdict
strict_verdict Complete = Complete
strict_verdict Noted = Faults
strict_verdict Faults = Faults
