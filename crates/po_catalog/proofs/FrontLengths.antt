-- How much follows the front of a line.
use Rattle.std.proofs.Common.{◌≡◌, ℕ, List, length, subst}
use Rattle.po_catalog.specs.declared.front.Front.{Front}
use Rattle.po_catalog.specs.Inner.FrontViews.{IsBehindLineFront, IsBelow}

-- less than so many bytes is less than a text of as many
pub behind_word : (front : Front) (n : ℕ) (text : List ℕ) → n ≡ length text → IsBelow front n → IsBehindLineFront front text
behind_word front n text is below = subst (λ (m : ℕ). IsBelow front m) is below
