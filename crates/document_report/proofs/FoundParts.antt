-- What is found, put together.
use Rattle.std.proofs.Common.{◌≡◌, ℕ, suc, ◌+◌, ◌<◌, List, length, get_or, drop, refl, ap, ◌∙◌}
use Rattle.std.proofs.Common.{false, Some, Result, Ok, Err}
use Rattle.std.specs.Prelude.{OnOk, is_some}
use Rattle.std.proofs.Common.{add-one}
use Rattle.std.proofs.Math.Seq.{drop-cons}
use Rattle.serde_json.specs.Data.{Data}
use Rattle.serde_json.specs.Find.{as_null, as_str, get}
use Rattle.icu_plurals.specs.declared.PluralCategory.{PluralCategory}
use Rattle.icu_plurals.specs.Categories.{name_of}
use Rattle.plural_checker.specs.declared.Fault.{Fault}
use Rattle.document_report.specs.DocumentPlaces.{LocalePlace, at_text}
use Rattle.document_report.specs.DocumentReport.{faults_of, found_told, found_under, found_under_all}
use Rattle.document_report.specs.FoundInDocuments.{Found, document_fault_at, nothing_found, together}
use Rattle.document_report.specs.declared.cause.Cause.TheVariants.{NoText}
use Rattle.document_report.proofs.FoundTogether.{nothing-together, together_assoc, two_added}

-- three additions to something
pub three_more : (old a b c one two three : Found) → one ≡ together old a → two ≡ together one b → three ≡ together two c
    → three ≡ together old (together a (together b c))
three_more old a b c one two three first second third =
    third
    ∙ ap (λ (f : Found). together f c) (second ∙ ap (λ (f : Found). together f b) first)
    ∙ together_assoc (together old a) b c
    ∙ together_assoc old a (together b c)

-- five, of which the third and the fourth belong together
pub five_more : (old a b c d e one two three four five : Found) → one ≡ together old a → two ≡ together one b
    → three ≡ together two c → four ≡ together three d → five ≡ together four e
    → five ≡ together old (together a (together b (together (together c d) e)))
five_more old a b c d e one two three four five first second third fourth fifth =
    three_more old a b (together (together c d) e) one two five first second
    (two_added two (together c d) e four five (two_added two c d three four third fourth) fifth)

-- five additions to nothing
pub five_added : (a b c d e one two three four five : Found) → one ≡ together nothing_found a → two ≡ together one b
    → three ≡ together two c → four ≡ together three d → five ≡ together four e
    → five ≡ together a (together b (together c (together d e)))
five_added a b c d e one two three four five first second third fourth fifth =
    three_more one b c (together d e) two three five second third (two_added three d e four five fourth fifth)
    ∙ ap (λ (f : Found). together f (together b (together c (together d e)))) (first ∙ nothing-together a)

-- ---- One thing after the other

-- what is found under the next category, and in its text, comes after what was found so far
pub next_under : (place : LocalePlace) (value : Data) (faults : List Fault) (categories : List PluralCategory)
    (i : ℕ) (d : PluralCategory) (now under next : Found) → i < length categories
    → under ≡ together now (found_under place (get_or categories i d) (get (name_of (get_or categories i d)) value))
    → next ≡ together under (found_told place (get_or categories i d) (faults_of (get_or categories i d) faults))
    → together next (found_under_all place value faults (drop (i + 1) categories))
    ≡ together now (found_under_all place value faults (drop i categories))
next_under place value faults categories i d now under next lt step told =
    let category = get_or categories i d in
    let rest = found_under_all place value faults (drop (suc i) categories) in
    let here = found_under place category (get (name_of category) value) in
    let faulty = found_told place category (faults_of category faults) in
    rw (add-one, drop-cons categories i d lt)
    (ap (λ (f : Found). together f rest) (told ∙ ap (λ (f : Found). together f faulty) step)
    ∙ together_assoc (together now here) faulty rest
    ∙ together_assoc now here (together faulty rest))

-- ---- What a call adds

-- what follows from the statement for an `Ok` also holds for the `Ok`
pub on_ok : {A E P Q : Type 0} (r : Result A E) → (P → Q) → OnOk r P → OnOk r Q
on_ok (Ok x) f h = f h
on_ok (Err e) f h = tt

-- a value that is neither null nor a text is a fault
pub no_text : (place : LocalePlace) (category : PluralCategory) (value : Data)
    → is_some (as_null value) ≡ false → is_some (as_str value) ≡ false
    → found_under place category (Some value) ≡ document_fault_at (at_text place category) NoText
no_text place category value null string = rw (null, string) refl
