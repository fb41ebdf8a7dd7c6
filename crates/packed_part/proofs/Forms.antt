-- A form with the bytes of its places.
use Rattle.std.proofs.Common.{◌≡◌, ◌∙◌, ◌++◌, ℕ, List, take, drop, ap, subst, sym, true, Bool}
use Rattle.std.specs.Bool.{Decides}
use Rattle.std.proofs.lemmas.List.{take-append-drop, append_cancel_right}
use Rattle.packed_part.specs.Inner.ItemForms.{IsForm, IsOwnForm}
use Rattle.packed_part.specs.Inner.PartReading.{place_room}

-- where what is behind the places is the piece's own, the places decide
pub places_decide : (tag : ℕ) (content places front own : List ℕ) (same : Bool) → front ≡ take (place_room tag) content
    → own ≡ drop (place_room tag) content → IsOwnForm tag own → Decides same (front ≡ places)
    → (same ≡ true → IsForm tag content places) × (IsForm tag content places → same ≡ true)
places_decide tag content places front own same f r is d =
    let room = place_room tag in
    let form : IsOwnForm tag (drop room content) = subst (IsOwnForm tag) r is in
    let whole : take room content ++ drop room content ≡ content = take-append-drop room content in (
      (λ h. (form.0, sym whole ∙ ap (λ x. x ++ drop room content) (sym f ∙ d.0 h) ∙ ap (λ x. places ++ x) form.1)),
      (λ e. d.1 (f ∙ append_cancel_right (take room content) places (drop room content)
          (whole ∙ e.1 ∙ ap (λ x. places ++ x) (sym form.1)))),
    )
