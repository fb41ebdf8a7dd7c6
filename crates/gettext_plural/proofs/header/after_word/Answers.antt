use Rattle.std.proofs.Common.{◌≡◌, ℕ, ◌<◌, List, [], ◌∷◌, length, drop, None, sym, ap, ◌∙◌, arith, drop-cons}
use Rattle.gettext_plural.specs.PluralHeaders.{after_header_word}
use Rattle.gettext_plural.proofs.header.after_word.Goals as goal

-- nothing follows a byte that is missing
no_rest : (word s : List ℕ) (i : ℕ) → i < length word → length s < 1 → after_header_word (drop i word) s ≡ None
no_rest word [] i within short = ap (λ (w : List ℕ). after_header_word w []) (drop-cons word i 0 within)
no_rest word (b ∷ s) i within short = absurd (omega arith)

pub returns-in_default : goal.returns-in_default
returns-in_default c = sym c.loop-byte.invariant ∙ no_rest _ _ _ c.loop-byte-test.true c.in_default.len_below
