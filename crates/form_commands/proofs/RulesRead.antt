-- What is read of the rules.
use Rattle.std.proofs.Common.{◌≡◌, ℕ, ◌<◌, ◌≤◌, List, length, Option, Result, Ok, Err, inl, inr, refl, subst, arith}
use Rattle.message_report.specs.FoundInMessages.{MessageFound}
use Rattle.message_report.specs.declared.file.MessageFile.{MessageFile}
use Rattle.plural_documents.specs.Inputs.{IsReadAfterResult, IsReadAfter, IsReadToEnd, input_origin, most_bytes}
use Rattle.plural_documents.specs.declared.input.InputError.{InputError}
use Rattle.plural_documents.specs.declared.input.InputError.TheVariants as cause
use Rattle.plural_documents.proofs.InputLemmas.{all_is_some}
use Rattle.plural_fallback.specs.declared.locales.Part.{Part}
use Rattle.serde_json.specs.Data.{Data}
use Rattle.serde_json.specs.declared.Value.{Value}
use Rattle.rules_outline.specs.declared.outline.KeptRules.{KeptRules}
use Rattle.number_lines.specs.PrintedTexts.{PrintedText}
use Rattle.form_commands.specs.FormsAnswers.{IsAnsweredLines, IsAnsweredText, IsCheckedAs, IsDocumentIn, forms_origin}
use Rattle.form_commands.specs.Inner.FormsInputFaults.{rules_input_fault}
use Rattle.form_commands.specs.Inner.RunSteps.{GivesJsonValue, GivesRulesIn}
use Rattle.form_commands.specs.declared.error.FormsError.{FormsError}
use Rattle.form_commands.specs.declared.error.FormsError.TheVariants.{Rules, TooLong, Json, Refused, Language, Numbers, Write, Memory}
use Rattle.form_commands.specs.declared.error.LanguageError.{LanguageError}
use Rattle.form_commands.specs.declared.error.Verdict.{Verdict}

-- what was read at an error of the input was read at its fault
read_at : (old new : Option (List ℕ)) (error : InputError) → IsReadAfter (input_origin error) old new
    → IsReadAfter (forms_origin (rules_input_fault error)) old new
read_at old new cause.Read read = read
read_at old new cause.TooLong read = read
read_at old new cause.Memory read = read

pub read_on : {B : Type 0} (old new : Option (List ℕ)) (error : InputError) (r : Result B FormsError) → r ≡ Err (rules_input_fault error)
    → IsReadAfter (input_origin error) old new → IsReadAfterResult forms_origin old new r
read_on old new error r is read = rw is (read_at old new error read)

-- if no result says that the rules are too long, they were read to their end
read_to_end : {B : Type 0} (old new : Option (List ℕ)) (r : Result B FormsError) → IsReadToEnd old new → (r ≡ Err TooLong → ⊥)
    → IsReadAfterResult forms_origin old new r
read_to_end old new (Ok value) end short = end
read_to_end old new (Err Rules) end short = all_is_some old new end
read_to_end old new (Err TooLong) end short = absurd (short refl)
read_to_end old new (Err Json) end short = end
read_to_end old new (Err (Refused error)) end short = end
read_to_end old new (Err (Language error)) end short = end
read_to_end old new (Err Numbers) end short = end
read_to_end old new (Err Write) end short = end
read_to_end old new (Err Memory) end short = all_is_some old new end

pub value_read : (left rest : Option (List ℕ)) (bytes : List ℕ) (r : Result Value FormsError) → IsReadToEnd left rest
    → GivesJsonValue bytes r → IsReadAfterResult forms_origin left rest r
value_read left rest bytes r end given =
    read_to_end left rest r end (λ is. subst (GivesJsonValue bytes) is given)

pub rules_read : (part : Part) (locale : List ℕ) (left rest : Option (List ℕ)) (bytes : List ℕ) (r : Result KeptRules FormsError)
    → IsReadToEnd left rest → GivesRulesIn part locale bytes r → IsReadAfterResult forms_origin left rest r
rules_read part locale left rest bytes r end given =
    read_to_end left rest r end (λ is. not_too_long (subst (GivesRulesIn part locale bytes) is given))
  where
    not_too_long : GivesRulesIn part locale bytes (Err TooLong) → ⊥
    not_too_long (inl none) = none
    not_too_long (inr unknown) = absurd (cc unknown.2.1)

-- no input is both within the limit and above it
not_both : (n most : ℕ) → n ≤ most → most < n → ⊥
not_both n most short long = omega arith

pub answer_read : (IsAnswer : Data → Result PrintedText LanguageError → Type 0) (left rest old new : Option (List ℕ)) (input : List ℕ)
    (document : Data) (r : Result Verdict FormsError) → IsReadToEnd left rest → IsDocumentIn input document
    → IsAnsweredText IsAnswer input old new r → IsReadAfterResult forms_origin left rest r
unfolding IsAnsweredText
answer_read IsAnswer left rest old new input document r end given answered =
    read_to_end left rest r end
    (λ is. let long = subst (IsAnsweredText IsAnswer input old new) is answered in not_both (length input) most_bytes given.0 long.0)

pub lines_read : (part : Part) (locale : List ℕ) (left rest before after old new : Option (List ℕ)) (input : List ℕ) (document : Data)
    (r : Result Verdict FormsError) → IsReadToEnd left rest → IsDocumentIn input document
    → IsAnsweredLines part locale input before after old new r → IsReadAfterResult forms_origin left rest r
unfolding IsAnsweredLines
lines_read part locale left rest before after old new input document r end given answered =
    read_to_end left rest r end
    (λ is. let long = subst (IsAnsweredLines part locale input before after old new) is answered in
    not_both (length input) most_bytes given.0 long.0)

pub report_read : (text_of : MessageFound → List ℕ) (files : List MessageFile) (left rest old new : Option (List ℕ)) (input : List ℕ)
    (document : Data)
    (r : Result Verdict FormsError) → IsReadToEnd left rest → IsDocumentIn input document
    → IsCheckedAs text_of files input old new r → IsReadAfterResult forms_origin left rest r
unfolding IsCheckedAs
report_read text_of files left rest old new input document r end given checked =
    read_to_end left rest r end
    (λ is. let long = subst (IsCheckedAs text_of files input old new) is checked in not_both (length input) most_bytes given.0 long.0)
