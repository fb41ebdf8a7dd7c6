-- No object of a finding has a float, and no result; nor has a list of such values.
use Rattle.std.proofs.Common.{◌≡◌, ℕ, ap, Bool, true, false, refl, List, [], ◌∷◌, ◌++◌, Option, Some, None, ◌∙◌}
use Rattle.std.specs.Prelude.{◌||◌}
use Rattle.serde_json.specs.Data.{Data, object}
use Rattle.serde_json.specs.View.{items_of}
use Rattle.serde_json.specs.Written.{has_float, items_have_float}
use Rattle.message_pattern.specs.PatternParts.{Exactly, Keyword}
use Rattle.message_report.specs.MessageFindings.{MessageFinding}
use Rattle.message_report.specs.MessagePlaces.{FilePlace}
use Rattle.message_report.specs.MessagePlaces.{at_document, at_locale, at_key, at_sources, at_source, at_messages, at_message, at_form}
use Rattle.message_report.specs.MessagePlaces.{at_other_key, at_patterns, at_pattern, at_argument, at_branch}
use Rattle.message_report.specs.declared.branch_fault.BranchFault.{BranchFault}
use Rattle.message_report.specs.declared.branch_fault.BranchFault.TheVariants as branch
use Rattle.message_report.specs.declared.cause.Cause.{Cause}
use Rattle.message_report.specs.declared.cause.Cause.TheVariants as cause
use Rattle.message_report.specs.declared.fault.FormFault.{FormFault}
use Rattle.message_report.specs.declared.fault.FormFault.TheVariants as form
use Rattle.finding_formats.specs.FindingObjects.{cause_data, finding_data, finding_members, place_data}
use Rattle.finding_formats.specs.LocatedFindings.{Located, Notice, Told, told_finding, told_notice, located_words}
use Rattle.finding_formats.specs.LocatedLog.{told_result}
use Rattle.finding_formats.specs.LocatedObjects.{located_data, notice_members, told_members, with_line, with_placeholder}

place_without : (place : FilePlace) → has_float (place_data place) ≡ false
place_without (at_document file) = refl
place_without (at_locale l) = refl
place_without (at_key l key) = refl
place_without (at_sources l) = refl
place_without (at_source l key) = refl
place_without (at_messages l type) = refl
place_without (at_message m) = refl
place_without (at_form m form) = refl
place_without (at_other_key m key) = refl
place_without (at_patterns l) = refl
place_without (at_pattern p) = refl
place_without (at_argument a) = refl
place_without (at_branch a (Exactly n)) = refl
place_without (at_branch a (Keyword word)) = refl

form_without : (fault : FormFault) → has_float (cause_data (cause.Form fault)) ≡ false
form_without form.NoText = refl
form_without (form.Unused category) = refl
form_without (form.NoNumber category first second) = refl
form_without (form.Missing category first None) = refl
form_without (form.Missing category first (Some second)) = refl
form_without (form.MissingRare category None None) = refl
form_without (form.MissingRare category None (Some second)) = refl
form_without (form.MissingRare category (Some first) None) = refl
form_without (form.MissingRare category (Some first) (Some second)) = refl

branch_without : (fault : BranchFault) → has_float (cause_data (cause.Branch fault)) ≡ false
branch_without branch.NoCategory = refl
branch_without branch.Twice = refl
branch_without (branch.Unused category) = refl
branch_without (branch.NoHash category first second) = refl
branch_without (branch.Missing category first None) = refl
branch_without (branch.Missing category first (Some second)) = refl
branch_without (branch.MissingRare category None None) = refl
branch_without (branch.MissingRare category None (Some second)) = refl
branch_without (branch.MissingRare category (Some first) None) = refl
branch_without (branch.MissingRare category (Some first) (Some second)) = refl

cause_without : (c : Cause) → has_float (cause_data c) ≡ false
cause_without cause.NoObject = refl
cause_without cause.NotAPart = refl
cause_without cause.NoTextList = refl
cause_without (cause.NoRules type) = refl
cause_without (cause.Form fault) = form_without fault
cause_without cause.NotAForm = refl
cause_without cause.NoText = refl
cause_without (cause.NoPattern kind byte) = refl
cause_without (cause.Branch fault) = branch_without fault
cause_without (cause.More count) = refl

-- the members of an object behind the first ones, which are no floats
object_without : (f : MessageFinding)
    → (has_float (cause_data f.cause) || (false || (has_float (place_data f.place) || (false || (false || false))))) ≡ false
object_without f =
    ap (λ found. found || (false || (has_float (place_data f.place) || false))) (cause_without f.cause)
    ∙ ap (λ found. found || false) (place_without f.place)

pub finding_without : (f : MessageFinding) → has_float (finding_data f) ≡ false
finding_without f = object_without f

-- ---- With lines

finding_told_without : (line : Option ℕ) (placeholder : Option (List ℕ)) (f : MessageFinding) (words : List ℕ)
    → has_float (object (with_placeholder placeholder (with_line line (finding_members f words)))) ≡ false
finding_told_without None None f words = object_without f
finding_told_without None (Some placeholder) f words = object_without f
finding_told_without (Some line) None f words = object_without f
finding_told_without (Some line) (Some placeholder) f words = object_without f

notice_told_without : (line : Option ℕ) (placeholder : Option (List ℕ)) (n : Notice) (words : List ℕ)
    → has_float (object (with_placeholder placeholder (with_line line (notice_members n words)))) ≡ false
notice_told_without None None n words = refl
notice_told_without None (Some placeholder) n words = refl
notice_told_without (Some line) None n words = refl
notice_told_without (Some line) (Some placeholder) n words = refl

told_without : (line : Option ℕ) (placeholder : Option (List ℕ)) (t : Told) (words : List ℕ)
    → has_float (object (with_placeholder placeholder (with_line line (told_members t words)))) ≡ false
told_without line placeholder (told_finding f) words = finding_told_without line placeholder f words
told_without line placeholder (told_notice n) words = notice_told_without line placeholder n words

pub located_without : (l : Located) → has_float (located_data l) ≡ false
located_without l = told_without l.line l.placeholder l.told (located_words l)

pub result_without : (line : Option ℕ) (t : Told) (words : List ℕ) → has_float (told_result line t words) ≡ false
result_without None (told_finding f) words = refl
result_without None (told_notice n) words = refl
result_without (Some line) (told_finding f) words = refl
result_without (Some line) (told_notice n) words = refl

-- ---- Lists

-- whether one of a list has a float
abbrev pub list_has_float : List Data → Bool
list_has_float ds = items_have_float (items_of ds)

neither : (a b c : Bool) → (b ≡ false → c ≡ false) → (a || b) ≡ false → (a || c) ≡ false
neither true b c f h = h
neither false b c f h = f h

-- one more without a float
pub one_more_without : (ds : List Data) (d : Data) → list_has_float ds ≡ false → has_float d ≡ false → list_has_float (ds ++ d ∷ []) ≡ false
one_more_without [] d h k = rw k refl
one_more_without (e ∷ ds) d h k =
    neither (has_float e) (list_has_float ds) (list_has_float (ds ++ d ∷ [])) (λ rest. one_more_without ds d rest k) h
