-- No object of a finding has a float.
use Rattle.std.proofs.Common.{◌≡◌, ℕ, ap, Bool, false, true, map, refl, List, [], ◌∷◌, ◌++◌}
use Rattle.std.specs.Prelude.{◌||◌}
use Rattle.serde_json.specs.Data.{Data, string}
use Rattle.serde_json.specs.View.{items_of}
use Rattle.serde_json.specs.Written.{has_float, items_have_float}
use Rattle.document_report.specs.DocumentFindings.{Finding}
use Rattle.document_report.specs.DocumentPlaces.{FindingPlace, at_document, at_key, at_locale, at_parent, at_parents, at_part, at_text}
use Rattle.document_notes.specs.DocumentNotes.{NoteAt, on_key, on_rule}
use Rattle.document_formats.specs.DocumentObjects.{finding_data_in, document_place_data}
use Rattle.document_formats.specs.NotedFormats.{note_data_in, note_place_data}

place_without : (place : FindingPlace) → has_float (document_place_data place) ≡ false
place_without at_document = refl
place_without (at_part key) = refl
place_without at_parents = refl
place_without (at_parent locale) = refl
place_without (at_locale l) = refl
place_without (at_text l category) = refl
place_without (at_key l key) = refl

pub finding_without : (file : List ℕ) (f : Finding) → has_float (finding_data_in file f) ≡ false
finding_without file f = ap (λ (found : Bool). found || false) (place_without f.place)

-- ---- Notes

texts_without : (texts : List (List ℕ)) → items_have_float (items_of (map string texts)) ≡ false
texts_without [] = refl
texts_without (text ∷ texts) = texts_without texts

note_place_without : (n : NoteAt) → has_float (note_place_data n) ≡ false
note_place_without (on_rule place note) = refl
note_place_without (on_key (path, key)) = ap (λ (found : Bool). found || false) (texts_without path)

pub note_without : (file : List ℕ) (n : NoteAt) → has_float (note_data_in file n) ≡ false
note_without file n = ap (λ (found : Bool). found || false) (note_place_without n)

-- ---- Two lists

neither : (a b c : Bool) → (b ≡ false → c ≡ false) → (a || b) ≡ false → (a || c) ≡ false
neither true b c f h = h
neither false b c f h = f h

pub both_without : (first second : List Data) → items_have_float (items_of first) ≡ false → items_have_float (items_of second) ≡ false
    → items_have_float (items_of (first ++ second)) ≡ false
both_without [] second h k = k
both_without (d ∷ first) second h k =
    neither (has_float d) (items_have_float (items_of first)) (items_have_float (items_of (first ++ second)))
    (λ rest. both_without first second rest k) h
