-- A report is read again from its lines.
use Rattle.std.proofs.Common.{◌≡◌, ℕ, ◌≤◌, List, [], ◌∷◌, ◌++◌, refl, sym, ap, ◌∙◌, arith, codes, lit≤}
use Rattle.std.specs.List.{All}
use Rattle.std.specs.Prelude.{bytes_eq, if◌then◌else◌, map, unwrap_or}
use Rattle.std.proofs.lemmas.List.Elements.{All-append, All-cons, All-nil}
use Rattle.json.specs.Tree as tree
use Rattle.icu_plurals.specs.Categories.{name_of}
use Rattle.icu_plurals.specs.declared.PluralCategory.{PluralCategory}
use Rattle.icu_plurals.specs.declared.PluralCategory.TheVariants.{Zero, One, Two, Few, Many, Other}
use Rattle.plural_fallback.specs.LocalesJson.{part_name}
use Rattle.plural_fallback.specs.declared.locales.Part.{Part}
use Rattle.plural_fallback.specs.declared.locales.Part.TheVariants.{Cardinal, Ordinal, Ranges}
use Rattle.serde_json.specs.Data.{Data, null, string}
use Rattle.serde_json.specs.Find.{get}
use Rattle.serde_json.specs.Written.{outline}
use Rattle.document_report.specs.DocumentFindings.{Finding}
use Rattle.document_report.specs.DocumentPlaces.{FindingPlace, LocalePlace, at_document, at_key, at_locale, at_parent, at_parents, at_part, at_text}
use Rattle.document_report.specs.ReportText.{counts_in, findings_in}
use Rattle.document_report.specs.declared.counts.Counts.{Counts}
use Rattle.document_report.specs.declared.report.Report.{Report}
use Rattle.finding_formats.proofs.LineLemmas.{lines_tell}
use Rattle.finding_formats.proofs.PlainData.{IsLineValue, IsPlain}
use Rattle.document_formats.specs.DocumentLineLaws.{CountsFit, LinesTellReports, Shown, shown_finding}
use Rattle.document_formats.specs.DocumentLines.{report_data}
use Rattle.document_formats.specs.DocumentObjects.{document_counts_data, document_finding_data, document_place_data}

-- ---- What stands under a key

abbrev value_at : List ℕ → Data → Data
value_at key d = unwrap_or (get key d) null

abbrev text_of : Data → List ℕ
text_of (string s) = s
text_of _ = []

abbrev text_at : List ℕ → Data → List ℕ
text_at key d = text_of (value_at key d)

-- ---- Places

abbrev part_in : List ℕ → Part
part_in word =
    if bytes_eq word (codes "cardinal") then Cardinal
    else if bytes_eq word (codes "ordinal") then Ordinal
    else Ranges

part_again : (part : Part) → part_in (part_name part) ≡ part
part_again Cardinal = refl
part_again Ordinal = refl
part_again Ranges = refl

abbrev category_in : List ℕ → PluralCategory
category_in word =
    if bytes_eq word (codes "zero") then Zero
    else if bytes_eq word (codes "one") then One
    else if bytes_eq word (codes "two") then Two
    else if bytes_eq word (codes "few") then Few
    else if bytes_eq word (codes "many") then Many
    else Other

category_again : (category : PluralCategory) → category_in (name_of category) ≡ category
category_again Zero = refl
category_again One = refl
category_again Two = refl
category_again Few = refl
category_again Many = refl
category_again Other = refl

abbrev locale_in : Data → LocalePlace
locale_in d = record { part = part_in (text_at (codes "part") d); locale = text_at (codes "locale") d }

abbrev place_of_kind : List ℕ → Data → FindingPlace
place_of_kind word d =
    if bytes_eq word (codes "document") then at_document
    else if bytes_eq word (codes "part") then at_part (text_at (codes "key") d)
    else if bytes_eq word (codes "parents") then at_parents
    else if bytes_eq word (codes "parent") then at_parent (text_at (codes "locale") d)
    else if bytes_eq word (codes "locale") then at_locale (locale_in d)
    else if bytes_eq word (codes "text") then at_text (locale_in d) (category_in (text_at (codes "category") d))
    else at_key (locale_in d) (text_at (codes "key") d)

place_in : Data → FindingPlace
place_in d = place_of_kind (text_at (codes "kind") d) d

place_again : (place : FindingPlace) → place_in (document_place_data place) ≡ place
unfolding place_in
place_again at_document = refl
place_again (at_part key) = refl
place_again at_parents = refl
place_again (at_parent locale) = refl
place_again (at_locale l) = ap (λ (part : Part). at_locale (record l { part = part })) (part_again l.part)
place_again (at_text l category) =
    ap (λ (part : Part). at_text (record l { part = part }) (category_in (name_of category))) (part_again l.part)
    ∙ ap (λ (c : PluralCategory). at_text l c) (category_again category)
place_again (at_key l key) = ap (λ (part : Part). at_key (record l { part = part }) key) (part_again l.part)

-- ---- Findings

abbrev shown_in : Data → Shown
shown_in d = record {
  place = place_in (value_at (codes "place") d);
  code = text_at (codes "code") (value_at (codes "cause") d);
  text = text_at (codes "text") (value_at (codes "cause") d);
}

shown_again : (f : Finding) → shown_in (document_finding_data f) ≡ shown_finding f
shown_again f =
    ap (λ (place : FindingPlace). let one : Shown = record { place = place; code = (shown_finding f).code; text = (shown_finding f).text } in one)
    (place_again f.place)

-- so the object tells what is shown_finding of the finding
object_tells : (f g : Finding) → document_finding_data f ≡ document_finding_data g → shown_finding f ≡ shown_finding g
object_tells f g same = sym (shown_again f) ∙ ap shown_in same ∙ shown_again g

-- ---- The objects are plain, and nest little

record IsPart (d : Data) : Type 0 where
  pub plain : IsPlain d
  pub shallow : tree.depth (outline d) ≤ 2

place_part : (place : FindingPlace) → IsPart (document_place_data place)
place_part at_document = record { plain = (tt, tt); shallow = lit≤ tt }
place_part (at_part key) = record { plain = (tt, (tt, tt)); shallow = lit≤ tt }
place_part at_parents = record { plain = (tt, tt); shallow = lit≤ tt }
place_part (at_parent locale) = record { plain = (tt, (tt, tt)); shallow = lit≤ tt }
place_part (at_locale l) = record { plain = (tt, (tt, (tt, tt))); shallow = lit≤ tt }
place_part (at_text l category) = record { plain = (tt, (tt, (tt, (tt, tt)))); shallow = lit≤ tt }
place_part (at_key l key) = record { plain = (tt, (tt, (tt, (tt, tt)))); shallow = lit≤ tt }

finding_line_value : (f : Finding) → IsLineValue (document_finding_data f)
finding_line_value f =
    let place = place_part f.place in
    record {
      plain = ((tt, (tt, tt)), (tt, (place.plain, (tt, (tt, tt)))));
      shallow = omega (arith, place.shallow);
    }

findings_line_values : (fs : List Finding) → All IsLineValue (map document_finding_data fs)
findings_line_values [] = All-nil IsLineValue
findings_line_values (f ∷ fs) =
    All-cons IsLineValue (document_finding_data f) (map document_finding_data fs) (finding_line_value f) (findings_line_values fs)

counts_line_value : (counts : Counts) → CountsFit counts → IsLineValue (document_counts_data counts)
counts_line_value counts h = record { plain = ((h.faults, (h.locales, (h.numbers, (h.rules, tt)))), tt); shallow = lit≤ tt }

report_line_values : (report : Report) → CountsFit (counts_in report) → All IsLineValue (report_data report)
report_line_values report h =
    All-append IsLineValue (map document_finding_data (findings_in report)) (document_counts_data (counts_in report) ∷ [])
    (findings_line_values (findings_in report))
    (All-cons IsLineValue (document_counts_data (counts_in report)) [] (counts_line_value (counts_in report) h) (All-nil IsLineValue))

-- ---- The objects tell the report

-- an object of a finding has a cause, and one of counts has none
not_counts : (f : Finding) (counts : Counts) → document_finding_data f ≡ document_counts_data counts → ⊥
not_counts f counts same = let found = ap (get (codes "cause")) same in cc

abbrev counts_of : ℕ → ℕ → ℕ → ℕ → Counts
counts_of locales rules numbers faults = record { locales = locales; rules = rules; numbers = numbers; faults = faults }

counts_tell : (c d : Counts) → document_counts_data c ≡ document_counts_data d → c ≡ d
counts_tell c d same =
    let faults : c.faults ≡ d.faults = cc in
    let locales : c.locales ≡ d.locales = cc in
    let numbers : c.numbers ≡ d.numbers = cc in
    let rules : c.rules ≡ d.rules = cc in
    ap (λ (n : ℕ). counts_of n c.rules c.numbers c.faults) locales ∙ ap (λ (n : ℕ). counts_of d.locales n c.numbers c.faults) rules
    ∙ ap (λ (n : ℕ). counts_of d.locales d.rules n c.faults) numbers ∙ ap (λ (n : ℕ). counts_of d.locales d.rules d.numbers n) faults

record SameShown (fs gs : List Finding) (c d : Counts) : Type 0 where
  findings : map shown_finding fs ≡ map shown_finding gs
  counts : c ≡ d

objects_tell : (fs gs : List Finding) (c d : Counts)
    → map document_finding_data fs ++ (document_counts_data c ∷ []) ≡ map document_finding_data gs ++ (document_counts_data d ∷ []) → SameShown fs gs c d
objects_tell [] [] c d same = let last : document_counts_data c ≡ document_counts_data d = cc in record { findings = refl; counts = counts_tell c d last }
objects_tell [] (g ∷ gs) c d same = let first : document_finding_data g ≡ document_counts_data c = cc in absurd (not_counts g c first)
objects_tell (f ∷ fs) [] c d same = let first : document_finding_data f ≡ document_counts_data d = cc in absurd (not_counts f d first)
objects_tell (f ∷ fs) (g ∷ gs) c d same =
    let first : document_finding_data f ≡ document_finding_data g = cc in
    let rest : map document_finding_data fs ++ (document_counts_data c ∷ []) ≡ map document_finding_data gs ++ (document_counts_data d ∷ []) = cc in
    let one : shown_finding f ≡ shown_finding g = object_tells f g first in
    let others = objects_tell fs gs c d rest in
    let all : map shown_finding fs ≡ map shown_finding gs = others.findings in
    record {
      findings = ap (λ (s : Shown). s ∷ map shown_finding fs) one ∙ ap (λ (ss : List Shown). shown_finding g ∷ ss) all;
      counts = others.counts;
    }

pub lines_tell_reports : LinesTellReports
lines_tell_reports a b h k same =
    let objects = lines_tell (report_data a) (report_data b) (report_line_values a h) (report_line_values b k) same in
    let told = objects_tell (findings_in a) (findings_in b) (counts_in a) (counts_in b) objects in
    record { findings = told.findings; counts = told.counts }
