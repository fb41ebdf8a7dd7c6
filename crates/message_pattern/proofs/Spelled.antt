-- Parts whose texts are spelled byte by byte.
use Rattle.std.proofs.Common.{◌≡◌, List, [], ◌∷◌, ◌++◌, refl, sym, ap, ◌∙◌, append_assoc}
use Rattle.message_pattern.specs.PatternParts.{Part}
use Rattle.message_pattern.specs.PatternPrinting.{spelled_piece, spelled}

-- lists are spelled one after the other
pub spelled-append : (a b : List Part) → spelled (a ++ b) ≡ spelled a ++ spelled b
spelled-append [] b = refl
spelled-append (p ∷ a) b =
    ap (λ (l : List Part). spelled_piece p.depth p.piece ++ l) (spelled-append a b)
    ∙ sym (append_assoc (spelled_piece p.depth p.piece) (spelled a) (spelled b))
