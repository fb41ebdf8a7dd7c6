-- The first text whose bytes are no UTF-8.
use Rattle.std.proofs.Common.{◌≡◌, ◌<◌, ◌≤◌, ◌+◌, ℕ, List, Bool, true, false, Option, Some, None, length, map, drop, get_or, sym, ap, ◌∙◌, if◌then◌else◌}
use Rattle.std.proofs.lemmas.List.{drop_all}
use Rattle.po_catalog.specs.declared.entry.Text.{Text}
use Rattle.po_catalog.specs.Catalogs.{text_view}
use Rattle.po_catalog.specs.Drafts.{first_other, is_text_of_other_bytes}
use Rattle.po_catalog.proofs.HeaderLines.{cut_off}

abbrev pub other_from : List Text → ℕ → Option ℕ
other_from texts k = first_other (map text_view (drop k texts))

-- the next text is one, or it isn't
step : (texts : List Text) (k : ℕ) (text : Text) (is : Bool) → k < length texts → text ≡ get_or texts k text
    → is ≡ is_text_of_other_bytes (text_view text)
    → other_from texts k ≡ (if is then Some text.line else other_from texts (k + 1))
step texts k text is lt at e =
    ap (λ (xs : List Text). first_other (map text_view xs)) (cut_off texts k text lt at)
    ∙ ap (λ (v : Bool). if v then Some text.line else other_from texts (k + 1)) (sym e)

pub other_here : (texts : List Text) (k : ℕ) (text : Text) → k < length texts → text ≡ get_or texts k text
    → true ≡ is_text_of_other_bytes (text_view text) → other_from texts k ≡ Some text.line
other_here texts k text lt at e = step texts k text true lt at e

pub other_later : (texts : List Text) (k : ℕ) (text : Text) → k < length texts → text ≡ get_or texts k text
    → false ≡ is_text_of_other_bytes (text_view text) → other_from texts k ≡ other_from texts (k + 1)
other_later texts k text lt at e = step texts k text false lt at e

pub other_nowhere : (texts : List Text) (k : ℕ) → length texts ≤ k → other_from texts k ≡ None
other_nowhere texts k le = ap (λ (xs : List Text). first_other (map text_view xs)) (drop_all k texts le)
