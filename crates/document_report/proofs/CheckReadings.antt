-- The answer after the input was read, or could not be read.
use Rattle.std.proofs.Common.{◌≡◌, ◌≤◌, ℕ, List, length, Bool, true, false, cond, Option, Some, None, Result, Ok, Err, refl, sym, subst, ap}
use Rattle.std.specs.Prelude.{is_some}
use Rattle.std.specs.Io.KnownBytes.{Keeps}
use Rattle.serde_json.specs.Data.{Data, Members, no_members, member}
use Rattle.serde_json.specs.Find.{as_null, as_object, get}
use Rattle.serde_json.specs.Written.{has_float}
use Rattle.plural_documents.specs.PrintedKeys.{name_text}
use Rattle.document_report.specs.CheckAnswer.{Answer, AnswersDocument, AnswersInputAs, IsCheckAnswered, answer_with, check_origin}
use Rattle.document_report.specs.CheckedDocument.{document_formed, document_with, has_part_form, locales_formed, object_formed, part_formed, parts_formed, document_of_input, document_of_bytes}
use Rattle.document_report.specs.DocumentReport.{IsReportOf}
use Rattle.plural_documents.specs.Steps.{value_or_fault, ◌>>=◌}
use Rattle.document_report.specs.Inner.CheckCalls.{Gives, GivesAfterReading, GivesCheckFault, GivesOnly, answer_view, check_input_fault}
use Rattle.plural_fallback.specs.LocalesJson.{part_name}
use Rattle.document_report.specs.declared.error.CheckError.{CheckError}
use Rattle.document_report.specs.declared.error.CheckError.TheVariants.{Usage, Read, TooLong, Json, Float, NoObject, Write, Memory}
use Rattle.plural_fallback.specs.declared.locales.Part.{Part}
use Rattle.plural_fallback.specs.declared.locales.Part.TheVariants.{Cardinal, Ordinal, Ranges}
use Rattle.document_report.specs.declared.place.Place.TheVariants as place
use Rattle.document_report.specs.declared.report.Report.{Report}
use Rattle.document_report.specs.declared.report.Verdict.{Verdict}
use Rattle.document_report.specs.declared.run.Answer.{Answer as CodeAnswer}
use Rattle.document_report.proofs.CheckFaults.{mapped}
use Rattle.plural_documents.specs.Inputs.{GivesInput, IsInput, IsReadAfterResult, IsReadAfter, IsReadToEnd, input_origin, most_bytes, json_of}
use Rattle.plural_documents.specs.declared.InputError.{InputError}
use Rattle.plural_documents.specs.declared.InputError.TheVariants as cause
use Rattle.plural_documents.proofs.InputLemmas.{all_is_some, beyond, some_input, within, without_reading}

-- ---- The bytes of a document aren't too long

-- two steps don't fail for length if neither step does
steps_not_long : {A B : Type 0} (value : Result A CheckError) (next : A → Result B CheckError)
    → (value ≡ Err TooLong → ⊥) → ((x : A) → next x ≡ Err TooLong → ⊥) → (value >>= next) ≡ Err TooLong → ⊥
steps_not_long (Ok x) next first second h = second x h
steps_not_long (Err e) next first second h = let same : e ≡ TooLong = cc in first (ap Err same)

-- nor does a choice between two
chosen_not_long : {A : Type 0} (b : Bool) (x y : Result A CheckError) → (x ≡ Err TooLong → ⊥) → (y ≡ Err TooLong → ⊥)
    → cond b x y ≡ Err TooLong → ⊥
chosen_not_long true x y first second h = first h
chosen_not_long false x y first second h = second h

-- nor the form of locales
locales_not_long : (part : Part) (members : Members) → locales_formed part members ≡ Err TooLong → ⊥
locales_not_long part no_members h = cc
locales_not_long part (member locale value members) h =
    chosen_not_long (has_part_form part value) (locales_formed part members) (Err (NoObject (place.Locale part (name_text locale))))
    (locales_not_long part members) (λ none. cc) h

-- nor the form of an object
object_not_long : (part : Part) (members : Option Members) → object_formed part members ≡ Err TooLong → ⊥
object_not_long part None h = cc
object_not_long part (Some members) h = locales_not_long part members h

-- nor the form of a part
part_not_long : (part : Part) (value : Option Data) → part_formed part value ≡ Err TooLong → ⊥
part_not_long part None h = cc
part_not_long part (Some value) h =
    chosen_not_long (is_some (as_null value)) (Ok tt) (object_formed part (as_object value))
    (λ none. cc) (object_not_long part (as_object value)) h

-- nor the form of a document
document_not_long : (value : Data) → document_formed value ≡ Err TooLong → ⊥
document_not_long value h =
    chosen_not_long (has_float value) (Err Float) (cond (is_some (as_object value)) (parts_formed value) (Err (NoObject place.Document)))
    (λ none. cc)
    (chosen_not_long (is_some (as_object value)) (parts_formed value) (Err (NoObject place.Document)) parts_not_long (λ none. cc)) h
  where
    -- nor the form of its parts
    parts_not_long : parts_formed value ≡ Err TooLong → ⊥
    parts_not_long =
        let cardinal = get (part_name Cardinal) value in
        let ordinal = get (part_name Ordinal) value in
        let ranges = get (part_name Ranges) value in
        steps_not_long (part_formed Cardinal cardinal) (λ _. part_formed Ordinal ordinal >>= λ _. part_formed Ranges ranges)
        (part_not_long Cardinal cardinal)
        (λ _. steps_not_long (part_formed Ordinal ordinal) (λ _. part_formed Ranges ranges)
        (part_not_long Ordinal ordinal) (λ _. part_not_long Ranges ranges))

-- nor a text that is no JSON
value_not_long : {A : Type 0} (o : Option A) → value_or_fault Json o ≡ Err TooLong → ⊥
value_not_long None h = cc
value_not_long (Some x) h = cc

-- the value of bytes isn't refused for their length
pub bytes_not_long : (bytes : List ℕ) → document_of_bytes bytes ≡ Err TooLong → ⊥
bytes_not_long bytes =
    steps_not_long (value_or_fault Json (json_of bytes)) document_with (value_not_long (json_of bytes))
    (λ value. steps_not_long (document_formed value) (λ _. Ok value) (document_not_long value) (λ done h. cc))

-- nor is the answer to them
pub answer_not_long : (text_of : Report → List ℕ) (bytes : List ℕ) → AnswersDocument text_of (document_of_bytes bytes) (Err TooLong) → ⊥
answer_not_long text_of bytes = by_value (document_of_bytes bytes) (bytes_not_long bytes)
  where
    by_value : (value : Result Data CheckError) → (value ≡ Err TooLong → ⊥) → AnswersDocument text_of value (Err TooLong) → ⊥
    by_value (Ok value) none h = h
    by_value (Err e) none h = let same : TooLong ≡ e = cc in none (ap Err (sym same))

-- ---- The answer to a document

-- a fault of the document is the answer
pub document_refused : (text_of : Report → List ℕ) (value : Result Data CheckError) (e : CheckError) (r : Result CodeAnswer CheckError)
    → r ≡ Err e → GivesCheckFault (λ fault. value ≡ Err fault) e → Gives answer_view (AnswersDocument text_of value) r
document_refused text_of value e r is h =
    rw is (mapped (λ fault. value ≡ Err fault) (λ fault. AnswersDocument text_of value (Err fault)) (λ fault there. rw there refl) e h)

-- the answer with a document's report is the answer to the document
pub report_answered : (text_of : Report → List ℕ) (document : Data) (report : Report) (r : Result CodeAnswer CheckError)
    → IsReportOf document report → GivesOnly answer_view (Ok (answer_with text_of report)) r
    → Gives answer_view (AnswersDocument text_of (Ok document)) r
report_answered text_of document report (Ok x) is h = (report, is, let same : answer_view x ≡ answer_with text_of report = cc in same)
report_answered text_of document report (Err e) is h =
    mapped (λ fault. Ok (answer_with text_of report) ≡ Err fault) (λ fault. AnswersDocument text_of (Ok document) (Err fault))
    (λ fault same. cc) e h

-- without arguments, only the input matters
pub without_words : (text_of : Report → List ℕ) (has_words : Bool) (input : List ℕ) (answer : Result Answer CheckError)
    → has_words ≡ false
    → AnswersDocument text_of (document_of_input input) answer → AnswersInputAs text_of has_words input answer
without_words text_of has_words input answer none h = rw none h

-- arguments are a fault
pub with_words : (text_of : Report → List ℕ) (has_words : Bool) (input : List ℕ) → has_words ≡ true
    → AnswersInputAs text_of has_words input (Err Usage)
with_words text_of has_words input some = rw some refl

-- ---- The answer of a call that may read

-- if the input is too long or can't be read, that fault is the answer
of_input : (text_of : Report → List ℕ) (left : Option (List ℕ)) (e : InputError) → GivesInput left (Err e)
    → (bytes : List ℕ) × IsInput left bytes × GivesAfterReading (AnswersDocument text_of (document_of_input bytes)) (Err (check_input_fault e))
of_input text_of left cause.Read h = let i = some_input left in (i.0, i.1, tt)
of_input text_of left cause.TooLong h = (
  h.0,
  h.1,
  subst (λ (value : Result Data CheckError). AnswersDocument text_of value (Err TooLong))
      (sym (beyond TooLong document_of_bytes h.0 h.2)) refl,
)
of_input text_of left cause.Memory h = let i = some_input left in (i.0, i.1, tt)

-- `?` passes on such a fault
pub no_input : (text_of : Report → List ℕ) (left : Option (List ℕ)) (e : InputError) (r : Result CodeAnswer CheckError)
    → r ≡ Err (check_input_fault e) → GivesInput left (Err e)
    → (bytes : List ℕ) × IsInput left bytes × GivesAfterReading (AnswersDocument text_of (document_of_input bytes)) r
no_input text_of left e r is h = rw is (of_input text_of left e h)

-- what was read at an error of the input was read at its fault
read_at : (old new : Option (List ℕ)) (e : InputError)
    → IsReadAfter (input_origin e) old new → IsReadAfter (check_origin (check_input_fault e)) old new
read_at old new cause.Read h = h
read_at old new cause.TooLong h = h
read_at old new cause.Memory h = h

-- `?` passes on such a fault
pub read_on : {B : Type 0} (old new : Option (List ℕ)) (e : InputError) (r : Result B CheckError)
    → r ≡ Err (check_input_fault e) → IsReadAfter (input_origin e) old new → IsReadAfterResult check_origin old new r
read_on old new e r is h = rw is (read_at old new e h)

-- the answer to the bytes is the answer to the input
pub of_all : (text_of : Report → List ℕ) (whole bytes : List ℕ) → length whole ≤ most_bytes → bytes ≡ whole
    → (r : Result CodeAnswer CheckError) → Gives answer_view (AnswersDocument text_of (document_of_bytes bytes)) r
    → GivesAfterReading (AnswersDocument text_of (document_of_input whole)) r
of_all text_of whole bytes short same r h =
    let all = subst (λ (read : List ℕ). Gives answer_view (AnswersDocument text_of (document_of_bytes read)) r) same h in
    subst (λ (value : Result Data CheckError). GivesAfterReading (AnswersDocument text_of value) r)
    (sym (within TooLong document_of_bytes whole short))
    (without_reading check_origin answer_view (AnswersDocument text_of (document_of_bytes whole)) r all)

-- if no answer says that the input is too long, it was read to its end
pub to_the_end : (IsAnswer : Result Answer CheckError → Type 0) (old new : Option (List ℕ)) → (IsAnswer (Err TooLong) → ⊥)
    → IsReadToEnd old new
    → (r : Result CodeAnswer CheckError) → Gives answer_view IsAnswer r → IsReadAfterResult check_origin old new r
to_the_end IsAnswer old new none end (Ok answer) h = end
to_the_end IsAnswer old new none end (Err Usage) h = end
to_the_end IsAnswer old new none end (Err Read) h = absurd h
to_the_end IsAnswer old new none end (Err TooLong) h = absurd (none h)
to_the_end IsAnswer old new none end (Err Json) h = end
to_the_end IsAnswer old new none end (Err Float) h = end
to_the_end IsAnswer old new none end (Err (NoObject at)) h = end
to_the_end IsAnswer old new none end (Err Write) h = end
to_the_end IsAnswer old new none end (Err Memory) h = all_is_some old new end

-- ---- Nothing is written after a fault

-- what is unchanged is kept
pub kept : (known : Option (List ℕ)) → Keeps known known
kept None = tt
kept (Some xs) = refl

-- a fault is the answer, and nothing is written
of_fault : (IsAnswer : Result Answer CheckError → Type 0) (known : Option (List ℕ)) (e : CheckError)
    → GivesAfterReading IsAnswer (Err e) → IsCheckAnswered IsAnswer known known (Err e)
of_fault IsAnswer known Usage h = (h, kept known)
of_fault IsAnswer known Read h = kept known
of_fault IsAnswer known TooLong h = (h, kept known)
of_fault IsAnswer known Json h = (h, kept known)
of_fault IsAnswer known Float h = (h, kept known)
of_fault IsAnswer known (NoObject at) h = (h, kept known)
of_fault IsAnswer known Write h = absurd h
of_fault IsAnswer known Memory h = kept known

-- `?` passes on such a fault
pub not_written : (IsAnswer : Result Answer CheckError → Type 0) (known : Option (List ℕ)) (e : CheckError) (r : Result Verdict CheckError)
    → r ≡ Err e → GivesAfterReading IsAnswer (Err e) → IsCheckAnswered IsAnswer known known r
not_written IsAnswer known e r is h = rw is (of_fault IsAnswer known e h)
