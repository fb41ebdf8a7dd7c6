-- The objects of what is told and of the totals are plain, and nest little; they tell the list.
use Rattle.std.proofs.Common.{◌≡◌, ℕ, List, [], ◌∷◌, ◌++◌, Option, Some, None, refl, sym, ap, ◌∙◌, arith, codes, lit≤}
use Rattle.std.specs.List.{All, flat_map}
use Rattle.std.specs.Prelude.{map}
use Rattle.std.proofs.lemmas.Grind.{flat_map-append}
use Rattle.std.proofs.lemmas.List.{append-nil}
use Rattle.std.proofs.lemmas.List.Elements.{All-append, All-cons, All-head, All-nil, All-tail}
use Rattle.message_report.specs.MessageFindings.{MessageFinding}
use Rattle.serde_json.specs.Data.{Data, object}
use Rattle.serde_json.specs.Find.{get}
use Rattle.finding_formats.specs.FindingObjects.{finding_members}
use Rattle.finding_formats.specs.JsonLineLaws.{Fits64If, HasTexts}
use Rattle.finding_formats.specs.JsonLines.{json_line}
use Rattle.finding_formats.specs.LocatedFindings.{Located, Notice, Told, told_finding, told_notice, located_words}
use Rattle.finding_formats.specs.LocatedLineLaws.{IsReadAgain, LinesTellLocated, ToldHasTexts, TotalsFit}
use Rattle.finding_formats.specs.LocatedObjects.{located_data, located_lines, notice_members, told_members, totals_data, with_line, with_placeholder}
use Rattle.finding_formats.specs.declared.totals.Totals.{Totals}
use Rattle.finding_formats.proofs.LineLemmas.{lines_tell}
use Rattle.finding_formats.proofs.ObjectLemmas.{cause_part, place_part}
use Rattle.finding_formats.proofs.PlainData.{IsLineValue}
use Rattle.finding_formats.proofs.ReadLocated.{located_object_tells}

finding_value : (line : Option ℕ) (placeholder : Option (List ℕ)) (f : MessageFinding) (words : List ℕ) → Fits64If line → HasTexts f
    → IsLineValue (object (with_placeholder placeholder (with_line line (finding_members f words))))
finding_value None None f words k h =
    let cause = cause_part f.cause h.cause in
    let place = place_part f.place in
    record { plain = (cause.plain, (tt, (place.plain, (tt, (tt, tt))))); shallow = omega (arith, cause.shallow, place.shallow) }
finding_value None (Some placeholder) f words k h =
    let cause = cause_part f.cause h.cause in
    let place = place_part f.place in
    record { plain = (cause.plain, (tt, (place.plain, (tt, (tt, (tt, tt)))))); shallow = omega (arith, cause.shallow, place.shallow) }
finding_value (Some line) None f words k h =
    let cause = cause_part f.cause h.cause in
    let place = place_part f.place in
    record { plain = (cause.plain, (tt, (k, (place.plain, (tt, (tt, tt)))))); shallow = omega (arith, cause.shallow, place.shallow) }
finding_value (Some line) (Some placeholder) f words k h =
    let cause = cause_part f.cause h.cause in
    let place = place_part f.place in
    record { plain = (cause.plain, (tt, (k, (place.plain, (tt, (tt, (tt, tt))))))); shallow = omega (arith, cause.shallow, place.shallow) }

notice_value : (line : Option ℕ) (placeholder : Option (List ℕ)) (n : Notice) (words : List ℕ) → Fits64If line
    → IsLineValue (object (with_placeholder placeholder (with_line line (notice_members n words))))
notice_value None None n words k = record { plain = ((tt, tt), (tt, (tt, (tt, tt)))); shallow = lit≤ tt }
notice_value None (Some placeholder) n words k = record { plain = ((tt, tt), (tt, (tt, (tt, (tt, tt))))); shallow = lit≤ tt }
notice_value (Some line) None n words k = record { plain = ((tt, tt), (tt, (k, (tt, (tt, tt))))); shallow = lit≤ tt }
notice_value (Some line) (Some placeholder) n words k = record { plain = ((tt, tt), (tt, (k, (tt, (tt, (tt, tt)))))); shallow = lit≤ tt }

told_value : (line : Option ℕ) (placeholder : Option (List ℕ)) (t : Told) (words : List ℕ) → Fits64If line → ToldHasTexts t
    → IsLineValue (object (with_placeholder placeholder (with_line line (told_members t words))))
told_value line placeholder (told_finding f) words k h = finding_value line placeholder f words k h
told_value line placeholder (told_notice n) words k h = notice_value line placeholder n words k

located_value : (l : Located) → IsReadAgain l → IsLineValue (located_data l)
located_value l h = told_value l.line l.placeholder l.told (located_words l) h.line h.told

located_values : (ls : List Located) → All IsReadAgain ls → All IsLineValue (map located_data ls)
located_values [] h = All-nil IsLineValue
located_values (l ∷ ls) h =
    All-cons IsLineValue (located_data l) (map located_data ls) (located_value l (All-head IsReadAgain l ls h))
    (located_values ls (All-tail IsReadAgain l ls h))

totals_value : (t : Totals) → TotalsFit t → IsLineValue (totals_data t)
totals_value t h = record { plain = ((h.faults, (h.forms, (h.left_out, (h.messages, (h.notes, tt))))), tt); shallow = lit≤ tt }

-- the objects of the list, and then that of the totals
abbrev objects_told : List Located → Totals → List Data
objects_told ls totals = map located_data ls ++ (totals_data totals ∷ [])

told_lines : (ls : List Located) (t : Totals) → flat_map json_line (objects_told ls t) ≡ located_lines ls t
told_lines ls t =
    flat_map-append json_line (map located_data ls) (totals_data t ∷ [])
    ∙ ap (λ (last : List ℕ). flat_map json_line (map located_data ls) ++ last) (append-nil (json_line (totals_data t)))

told_values : (ls : List Located) (t : Totals) → All IsReadAgain ls → TotalsFit t → All IsLineValue (objects_told ls t)
told_values ls t h k =
    All-append IsLineValue (map located_data ls) (totals_data t ∷ []) (located_values ls h)
    (All-cons IsLineValue (totals_data t) [] (totals_value t k) (All-nil IsLineValue))

-- ---- The objects tell the list and the totals

-- the object of one has a cause, and that of totals has none
told_not_totals : (line : Option ℕ) (placeholder : Option (List ℕ)) (told : Told) (words : List ℕ) (t : Totals)
    → object (with_placeholder placeholder (with_line line (told_members told words))) ≡ totals_data t → ⊥
told_not_totals None None (told_finding f) words t same = let found = ap (get (codes "cause")) same in cc
told_not_totals None None (told_notice n) words t same = let found = ap (get (codes "cause")) same in cc
told_not_totals None (Some placeholder) (told_finding f) words t same = let found = ap (get (codes "cause")) same in cc
told_not_totals None (Some placeholder) (told_notice n) words t same = let found = ap (get (codes "cause")) same in cc
told_not_totals (Some line) None (told_finding f) words t same = let found = ap (get (codes "cause")) same in cc
told_not_totals (Some line) None (told_notice n) words t same = let found = ap (get (codes "cause")) same in cc
told_not_totals (Some line) (Some placeholder) (told_finding f) words t same = let found = ap (get (codes "cause")) same in cc
told_not_totals (Some line) (Some placeholder) (told_notice n) words t same = let found = ap (get (codes "cause")) same in cc

not_totals : (l : Located) (t : Totals) → located_data l ≡ totals_data t → ⊥
not_totals l t same = told_not_totals l.line l.placeholder l.told (located_words l) t same

abbrev totals_of : ℕ → ℕ → ℕ → ℕ → ℕ → Totals
totals_of messages forms faults notes left_out = record {
  messages = messages;
  forms = forms;
  faults = faults;
  notes = notes;
  left_out = left_out;
}

totals_tell : (t u : Totals) → totals_data t ≡ totals_data u → t ≡ u
totals_tell t u same =
    let messages : t.messages ≡ u.messages = cc in
    let forms : t.forms ≡ u.forms = cc in
    let faults : t.faults ≡ u.faults = cc in
    let notes : t.notes ≡ u.notes = cc in
    let left_out : t.left_out ≡ u.left_out = cc in
    ap (λ (n : ℕ). totals_of n t.forms t.faults t.notes t.left_out) messages
    ∙ ap (λ (n : ℕ). totals_of u.messages n t.faults t.notes t.left_out) forms
    ∙ ap (λ (n : ℕ). totals_of u.messages u.forms n t.notes t.left_out) faults
    ∙ ap (λ (n : ℕ). totals_of u.messages u.forms u.faults n t.left_out) notes
    ∙ ap (λ (n : ℕ). totals_of u.messages u.forms u.faults u.notes n) left_out

record SameTold (ls ms : List Located) (t u : Totals) : Type 0 where
  located : ls ≡ ms
  totals : t ≡ u

objects_tell : (ls ms : List Located) (t u : Totals) → All IsReadAgain ls → All IsReadAgain ms
    → objects_told ls t ≡ objects_told ms u → SameTold ls ms t u
objects_tell [] [] t u h k same = let last : totals_data t ≡ totals_data u = cc in record { located = refl; totals = totals_tell t u last }
objects_tell [] (m ∷ ms) t u h k same = let first : located_data m ≡ totals_data t = cc in absurd (not_totals m t first)
objects_tell (l ∷ ls) [] t u h k same = let first : located_data l ≡ totals_data u = cc in absurd (not_totals l u first)
objects_tell (l ∷ ls) (m ∷ ms) t u h k same =
    let first : located_data l ≡ located_data m = cc in
    let rest : objects_told ls t ≡ objects_told ms u = cc in
    let one : l ≡ m = located_object_tells l m (All-head IsReadAgain l ls h) (All-head IsReadAgain m ms k) first in
    let others = objects_tell ls ms t u (All-tail IsReadAgain l ls h) (All-tail IsReadAgain m ms k) rest in
    let located : ls ≡ ms = others.located in
    record { located = cc; totals = others.totals }

pub lines_tell_located : LinesTellLocated
lines_tell_located ls ms t u h k p q same =
    let objects = lines_tell (objects_told ls t) (objects_told ms u) (told_values ls t h p) (told_values ms u k q)
    (told_lines ls t ∙ same ∙ sym (told_lines ms u)) in
    let told = objects_tell ls ms t u h k objects in
    (told.located, told.totals)
