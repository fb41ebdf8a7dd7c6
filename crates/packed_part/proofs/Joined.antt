-- A text that is one behind another.
use Rattle.std.proofs.Common.{◌≡◌, ◌∙◌, ◌++◌, ℕ, List, length, take, drop, ap, sym, true, false, Bool}
use Rattle.std.specs.Bool.{Decides}
use Rattle.std.proofs.lemmas.List.{take-append-drop}
use Rattle.std.proofs.Math.Seq.{take-append_seam, drop-append_seam}

-- where the front is the first, the rest decides
pub rest_decides : (text first second front rest : List ℕ) (same : Bool) → front ≡ take (length first) text
    → rest ≡ drop (length first) text → front ≡ first → Decides same (rest ≡ second)
    → (same ≡ true → text ≡ first ++ second) × (text ≡ first ++ second → same ≡ true)
rest_decides text first second front rest same f r is d = (
  (λ h. sym (take-append-drop (length first) text) ∙ ap (λ x. x ++ drop (length first) text) (sym f ∙ is)
      ∙ ap (λ x. first ++ x) (sym r ∙ d.0 h)),
  (λ e. d.1 (r ∙ ap (drop (length first)) e ∙ drop-append_seam first second)),
)

-- where it isn't, the text is none
pub front_decides : (text first second front : List ℕ) (same : Bool) → front ≡ take (length first) text
    → same ≡ false → Decides same (front ≡ first)
    → (same ≡ true → text ≡ first ++ second) × (text ≡ first ++ second → same ≡ true)
front_decides text first second front same f is d = (
  (λ h. absurd cc),
  (λ e. d.1 (f ∙ ap (take (length first)) e ∙ take-append_seam first second)),
)
