-- The objects of findings and of counts are plain, and nest little.
use Rattle.std.proofs.Common.{◌≡◌, ℕ, ◌<◌, ◌≤◌, ◌^◌, List, [], ◌∷◌, ◌++◌, Some, None, refl, ap, ◌∙◌, arith, codes, lit≤}
use Rattle.std.specs.List.{All}
use Rattle.std.specs.Prelude.{map}
use Rattle.std.proofs.lemmas.List.Elements.{All-append, All-cons, All-head, All-nil, All-tail}
use Rattle.json.specs.Tree as tree
use Rattle.message_pattern.specs.PatternParts.{Exactly, Keyword}
use Rattle.message_report.specs.FoundInMessages.{MessageFound}
use Rattle.message_report.specs.MessageFindings.{MessageFinding}
use Rattle.message_report.specs.MessagePlaces.{FilePlace}
use Rattle.message_report.specs.MessagePlaces.{at_document, at_locale, at_key, at_sources, at_source, at_messages, at_message, at_form}
use Rattle.message_report.specs.MessagePlaces.{at_other_key, at_patterns, at_pattern, at_argument, at_branch}
use Rattle.message_report.specs.MessagesReportText.{counts_found}
use Rattle.message_report.specs.declared.branch_fault.BranchFault.{BranchFault}
use Rattle.message_report.specs.declared.branch_fault.BranchFault.TheVariants as branch
use Rattle.message_report.specs.declared.cause.Cause.{Cause}
use Rattle.message_report.specs.declared.cause.Cause.TheVariants as cause
use Rattle.message_report.specs.declared.counts.Counts.{Counts}
use Rattle.message_report.specs.declared.fault.FormFault.{FormFault}
use Rattle.message_report.specs.declared.fault.FormFault.TheVariants as fault
use Rattle.serde_json.specs.Data.{Data}
use Rattle.serde_json.specs.Find.{get}
use Rattle.serde_json.specs.Written.{outline}
use Rattle.finding_formats.specs.FindingObjects.{cause_data, counts_data, finding_data, place_data}
use Rattle.finding_formats.specs.JsonLineLaws.{AllHaveTexts, BranchFits, CauseFits, FormFits, HasTexts, LinesTellFindings}
use Rattle.finding_formats.specs.JsonLines.{found_data}
use Rattle.finding_formats.proofs.LineLemmas.{lines_tell}
use Rattle.finding_formats.proofs.PlainData.{IsLineValue, IsPlain}
use Rattle.finding_formats.proofs.ReadFindings.{object_tells}

-- a value within the object of a finding
pub record IsPart (d : Data) : Type 0 where
  pub plain : IsPlain d
  pub shallow : tree.depth (outline d) ≤ 2

pub place_part : (place : FilePlace) → IsPart (place_data place)
place_part (at_document file) = record { plain = (tt, tt); shallow = lit≤ tt }
place_part (at_locale l) = record { plain = (tt, (tt, tt)); shallow = lit≤ tt }
place_part (at_key l key) = record { plain = (tt, (tt, (tt, tt))); shallow = lit≤ tt }
place_part (at_sources l) = record { plain = (tt, (tt, tt)); shallow = lit≤ tt }
place_part (at_source l key) = record { plain = (tt, (tt, (tt, tt))); shallow = lit≤ tt }
place_part (at_messages l type) = record { plain = (tt, (tt, (tt, tt))); shallow = lit≤ tt }
place_part (at_message m) = record { plain = (tt, (tt, (tt, (tt, tt)))); shallow = lit≤ tt }
place_part (at_form m form) = record { plain = (tt, (tt, (tt, (tt, (tt, tt))))); shallow = lit≤ tt }
place_part (at_other_key m key) = record { plain = (tt, (tt, (tt, (tt, (tt, tt))))); shallow = lit≤ tt }
place_part (at_patterns l) = record { plain = (tt, (tt, tt)); shallow = lit≤ tt }
place_part (at_pattern p) = record { plain = (tt, (tt, (tt, tt))); shallow = lit≤ tt }
place_part (at_argument a) = record { plain = (tt, (tt, (tt, (tt, tt)))); shallow = lit≤ tt }
place_part (at_branch a (Exactly n)) = record { plain = (tt, (tt, (tt, (tt, (tt, tt))))); shallow = lit≤ tt }
place_part (at_branch a (Keyword word)) = record { plain = (tt, (tt, (tt, (tt, (tt, tt))))); shallow = lit≤ tt }

form_part : (f : FormFault) → FormFits f → IsPart (cause_data (cause.Form f))
form_part fault.NoText h = record { plain = (tt, (tt, tt)); shallow = lit≤ tt }
form_part (fault.Unused category) h = record { plain = (tt, (tt, (tt, tt))); shallow = lit≤ tt }
form_part (fault.NoNumber category first second) h = record { plain = (tt, (tt, ((h.0, (h.1, tt)), (tt, tt)))); shallow = lit≤ tt }
form_part (fault.Missing category first None) h = record { plain = (tt, (tt, ((h.0, tt), (tt, tt)))); shallow = lit≤ tt }
form_part (fault.Missing category first (Some second)) h = record { plain = (tt, (tt, ((h.0, (h.1, tt)), (tt, tt)))); shallow = lit≤ tt }
form_part (fault.MissingRare category None None) h = record { plain = (tt, (tt, (tt, (tt, tt)))); shallow = lit≤ tt }
form_part (fault.MissingRare category None (Some second)) h = record { plain = (tt, (tt, (tt, ((tt, (tt, tt)), tt)))); shallow = lit≤ tt }
form_part (fault.MissingRare category (Some first) None) h = record { plain = (tt, (tt, (tt, ((tt, tt), tt)))); shallow = lit≤ tt }
form_part (fault.MissingRare category (Some first) (Some second)) h =
    record { plain = (tt, (tt, (tt, ((tt, (tt, tt)), tt)))); shallow = lit≤ tt }

branch_part : (f : BranchFault) → BranchFits f → IsPart (cause_data (cause.Branch f))
branch_part branch.NoCategory h = record { plain = (tt, (tt, tt)); shallow = lit≤ tt }
branch_part branch.Twice h = record { plain = (tt, (tt, tt)); shallow = lit≤ tt }
branch_part (branch.Unused category) h = record { plain = (tt, (tt, (tt, tt))); shallow = lit≤ tt }
branch_part (branch.NoHash category first second) h = record { plain = (tt, (tt, ((h.0, (h.1, tt)), (tt, tt)))); shallow = lit≤ tt }
branch_part (branch.Missing category first None) h = record { plain = (tt, (tt, ((h.0, tt), (tt, tt)))); shallow = lit≤ tt }
branch_part (branch.Missing category first (Some second)) h = record { plain = (tt, (tt, ((h.0, (h.1, tt)), (tt, tt)))); shallow = lit≤ tt }
branch_part (branch.MissingRare category None None) h = record { plain = (tt, (tt, (tt, (tt, tt)))); shallow = lit≤ tt }
branch_part (branch.MissingRare category None (Some second)) h =
    record { plain = (tt, (tt, (tt, ((tt, (tt, tt)), tt)))); shallow = lit≤ tt }
branch_part (branch.MissingRare category (Some first) None) h = record { plain = (tt, (tt, (tt, ((tt, tt), tt)))); shallow = lit≤ tt }
branch_part (branch.MissingRare category (Some first) (Some second)) h =
    record { plain = (tt, (tt, (tt, ((tt, (tt, tt)), tt)))); shallow = lit≤ tt }

pub cause_part : (c : Cause) → CauseFits c → IsPart (cause_data c)
cause_part cause.NoObject h = record { plain = (tt, tt); shallow = lit≤ tt }
cause_part cause.NotAPart h = record { plain = (tt, tt); shallow = lit≤ tt }
cause_part cause.NoTextList h = record { plain = (tt, tt); shallow = lit≤ tt }
cause_part (cause.NoRules type) h = record { plain = (tt, (tt, tt)); shallow = lit≤ tt }
cause_part (cause.Form f) h = form_part f h
cause_part cause.NotAForm h = record { plain = (tt, tt); shallow = lit≤ tt }
cause_part cause.NoText h = record { plain = (tt, (tt, tt)); shallow = lit≤ tt }
cause_part (cause.NoPattern kind byte) h = record { plain = (h, (tt, (tt, tt))); shallow = lit≤ tt }
cause_part (cause.Branch f) h = branch_part f h
cause_part (cause.More count) h = record { plain = (tt, (h, tt)); shallow = lit≤ tt }

finding_line_value : (f : MessageFinding) → HasTexts f → IsLineValue (finding_data f)
finding_line_value f h =
    let cause = cause_part f.cause h.cause in
    let place = place_part f.place in
    record {
      plain = (cause.plain, (tt, (place.plain, (tt, (tt, tt)))));
      shallow = omega (arith, cause.shallow, place.shallow);
    }

findings_line_values : (fs : List MessageFinding) → All HasTexts fs → All IsLineValue (map finding_data fs)
findings_line_values [] h = All-nil IsLineValue
findings_line_values (f ∷ fs) h =
    All-cons IsLineValue (finding_data f) (map finding_data fs) (finding_line_value f (All-head HasTexts f fs h))
    (findings_line_values fs (All-tail HasTexts f fs h))

counts_line_value : (counts : Counts) → counts.faults < 2 ^ 64 → counts.forms < 2 ^ 64 → counts.messages < 2 ^ 64 → counts.notes < 2 ^ 64
    → IsLineValue (counts_data counts)
counts_line_value counts h k l m = record { plain = ((h, (k, (l, (m, tt)))), tt); shallow = lit≤ tt }

found_line_values : (found : MessageFound) → AllHaveTexts found → All IsLineValue (found_data found)
found_line_values found h =
    All-append IsLineValue (map finding_data found.findings) (counts_data (counts_found found) ∷ [])
    (findings_line_values found.findings h.findings)
    (All-cons IsLineValue (counts_data (counts_found found)) []
    (counts_line_value (counts_found found) h.faults h.forms h.messages h.notes) (All-nil IsLineValue))

-- ---- The objects tell what is found

-- an object of a finding has a cause, and one of counts has none
not_counts : (f : MessageFinding) (counts : Counts) → finding_data f ≡ counts_data counts → ⊥
not_counts f counts same = let found = ap (get (codes "cause")) same in cc

none_left : {A : Type 0} (x : A) (xs : List A) → xs ++ (x ∷ []) ≡ [] → ⊥
none_left x [] same = cc
none_left x (y ∷ ys) same = cc

record SameFound (fs gs : List MessageFinding) (c d : Counts) : Type 0 where
  findings : fs ≡ gs
  counts : c ≡ d

abbrev counts_of : ℕ → ℕ → ℕ → ℕ → Counts
counts_of messages forms faults notes = record { messages = messages; forms = forms; faults = faults; notes = notes }

counts_tell : (c d : Counts) → counts_data c ≡ counts_data d → c ≡ d
counts_tell c d same =
    let faults : c.faults ≡ d.faults = cc in
    let forms : c.forms ≡ d.forms = cc in
    let messages : c.messages ≡ d.messages = cc in
    let notes : c.notes ≡ d.notes = cc in
    ap (λ (n : ℕ). counts_of n c.forms c.faults c.notes) messages ∙ ap (λ (n : ℕ). counts_of d.messages n c.faults c.notes) forms
    ∙ ap (λ (n : ℕ). counts_of d.messages d.forms n c.notes) faults ∙ ap (λ (n : ℕ). counts_of d.messages d.forms d.faults n) notes

objects_tell : (fs gs : List MessageFinding) (c d : Counts) → All HasTexts fs → All HasTexts gs
    → map finding_data fs ++ (counts_data c ∷ []) ≡ map finding_data gs ++ (counts_data d ∷ []) → SameFound fs gs c d
objects_tell [] [] c d h k same = let last : counts_data c ≡ counts_data d = cc in record { findings = refl; counts = counts_tell c d last }
objects_tell [] (g ∷ gs) c d h k same = let first : finding_data g ≡ counts_data c = cc in absurd (not_counts g c first)
objects_tell (f ∷ fs) [] c d h k same = let first : finding_data f ≡ counts_data d = cc in absurd (not_counts f d first)
objects_tell (f ∷ fs) (g ∷ gs) c d h k same =
    let first : finding_data f ≡ finding_data g = cc in
    let rest : map finding_data fs ++ (counts_data c ∷ []) ≡ map finding_data gs ++ (counts_data d ∷ []) = cc in
    let finding : f ≡ g = object_tells f g (All-head HasTexts f fs h) (All-head HasTexts g gs k) first in
    let others = objects_tell fs gs c d (All-tail HasTexts f fs h) (All-tail HasTexts g gs k) rest in
    let findings : fs ≡ gs = others.findings in
    record { findings = cc; counts = others.counts }

abbrev found_of : List MessageFinding → Counts → MessageFound
found_of findings counts = record {
  findings = findings;
  faults = counts.faults;
  notes = counts.notes;
  messages = counts.messages;
  forms = counts.forms;
}

pub lines_tell_findings : LinesTellFindings
lines_tell_findings a b h k same =
    let objects = lines_tell (found_data a) (found_data b) (found_line_values a h) (found_line_values b k) same in
    let found = objects_tell a.findings b.findings (counts_found a) (counts_found b) h.findings k.findings objects in
    ap (λ (fs : List MessageFinding). found_of fs (counts_found a)) found.findings
    ∙ ap (λ (c : Counts). found_of b.findings c) found.counts
