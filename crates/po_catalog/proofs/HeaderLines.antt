-- The fields of a header, line by line, and the first message that is one.
use Rattle.std.proofs.Common.{◌≡◌, ◌<◌, ◌≤◌, ◌+◌, ℕ, suc, List, ◌∷◌, Bool, true, false, cond, Option, Some, None, length, map, drop, get_or, sym, ap, ◌∙◌, add-one}
use Rattle.std.specs.Borrow.{Bor}
use Rattle.std.specs.List.{find}
use Rattle.std.specs.Option.{option_copied, option_or}
use Rattle.std.proofs.Math.Seq.{drop-cons}
use Rattle.std.proofs.lemmas.List.{drop_all}
use Rattle.po_catalog.specs.declared.entry.Entry.{Entry}
use Rattle.po_catalog.specs.Catalogs.{PoMessage, message_view}
use Rattle.po_catalog.specs.FileLines.{cut_at, lines_left}
use Rattle.po_catalog.specs.Headers.{field_in, first_field_value, is_header, value_in}
use Rattle.po_catalog.specs.Inner.LineViews.{cut_view, left_view}
use Rattle.po_catalog.proofs.Cuts.{first_line}

-- the first line, and then the others
field_step : (name rest : List ℕ) (cut : Bor (List ℕ) × Option (Bor (List ℕ))) → cut_view cut ≡ cut_at 10 rest
    → field_in name rest ≡ option_or (value_in name cut.0.now) (first_field_value name (lines_left (left_view cut.1)))
field_step name rest cut e =
    ap (first_field_value name) (first_line rest)
    ∙ ap (λ (x : List ℕ × Option (List ℕ)). option_or (value_in name x.0) (first_field_value name (lines_left x.1))) (sym e)

pub field_here : (name rest whole value : List ℕ) (cut : Bor (List ℕ) × Option (Bor (List ℕ)))
    → field_in name rest ≡ field_in name whole → cut_view cut ≡ cut_at 10 rest
    → Some value ≡ value_in name cut.0.now → Some value ≡ field_in name whole
field_here name rest whole value cut h e is =
    ap (λ (o : Option (List ℕ)). option_or o (first_field_value name (lines_left (left_view cut.1)))) is ∙ (sym (field_step name rest cut e) ∙ h)

pub field_later : (name rest whole : List ℕ) (cut : Bor (List ℕ) × Option (Bor (List ℕ))) → field_in name rest ≡ field_in name whole
    → cut_view cut ≡ cut_at 10 rest
    → None ≡ value_in name cut.0.now → first_field_value name (lines_left (left_view cut.1)) ≡ field_in name whole
field_later name rest whole cut h e none =
    ap (λ (o : Option (List ℕ)). option_or o (first_field_value name (lines_left (left_view cut.1)))) none
    ∙ (sym (field_step name rest cut e) ∙ h)

-- no line follows, or further ones
pub field_nowhere : (name whole : List ℕ) (after result : Option (Bor (List ℕ))) → result ≡ None → after ≡ None
    → first_field_value name (lines_left (left_view after)) ≡ field_in name whole → option_copied result ≡ field_in name whole
field_nowhere name whole after result none e h =
    ap (λ (o : Option (Bor (List ℕ))). option_copied o) none
    ∙ (sym (ap (λ (o : Option (Bor (List ℕ))). first_field_value name (lines_left (left_view o))) e) ∙ h)

pub field_goes : (name whole : List ℕ) (after : Option (Bor (List ℕ))) (rest : Bor (List ℕ)) → after ≡ Some rest
    → first_field_value name (lines_left (left_view after)) ≡ field_in name whole → field_in name rest.now ≡ field_in name whole
field_goes name whole after rest e h = sym (ap (λ (o : Option (Bor (List ℕ))). first_field_value name (lines_left (left_view o))) e) ∙ h

-- ---- the first header

abbrev pub header_from : List Entry → ℕ → Option PoMessage
header_from entries k = find is_header (map message_view (drop k entries))

pub cut_off : {X : Type 0} (xs : List X) (k : ℕ) (x : X) → k < length xs → x ≡ get_or xs k x → drop k xs ≡ x ∷ drop (k + 1) xs
cut_off xs k x lt is = drop-cons xs k x lt ∙ (ap (λ y. y ∷ drop (suc k) xs) (sym is) ∙ ap (λ (n : ℕ). x ∷ drop n xs) (sym (add-one k)))

pub header_here : (entries : List Entry) (k : ℕ) (entry : Entry) → k < length entries → entry ≡ get_or entries k entry
    → true ≡ is_header (message_view entry)
    → header_from entries k ≡ Some (message_view entry)
header_here entries k entry lt is found =
    ap (λ (xs : List Entry). find is_header (map message_view xs)) (cut_off entries k entry lt is)
    ∙ ap (λ (v : Bool). cond v (Some (message_view entry)) (header_from entries (k + 1))) (sym found)

pub header_later : (entries : List Entry) (k : ℕ) (entry : Entry) → k < length entries → entry ≡ get_or entries k entry
    → false ≡ is_header (message_view entry)
    → header_from entries k ≡ header_from entries (k + 1)
header_later entries k entry lt is other =
    ap (λ (xs : List Entry). find is_header (map message_view xs)) (cut_off entries k entry lt is)
    ∙ ap (λ (v : Bool). cond v (Some (message_view entry)) (header_from entries (k + 1))) (sym other)

pub header_nowhere : (entries : List Entry) (k : ℕ) → length entries ≤ k → header_from entries k ≡ None
header_nowhere entries k le = ap (λ (xs : List Entry). find is_header (map message_view xs)) (drop_all k entries le)
