-- How a text is filled: piece by piece, each up to a `}`, so that a placeholder ends its piece.
use Rattle.std.proofs.Common.{◌≡◌, ℕ, ◌<◌, ◌≤◌, ◌+◌, ◌-◌, List, [], ◌∷◌, ◌++◌, flat_map, length, take, drop, get_or}
use Rattle.std.proofs.Common.{ap, subst, sym, ◌∙◌, refl, append_assoc, arith, length-append, length-take, Some, None, ⊎_elim}
use Rattle.std.proofs.Common.{get_or-append-add, get_or-take}
use Rattle.std.specs.List.{AllByRecursion}
use Rattle.std.specs.Str.Iter.{HasSubslice}
use Rattle.std.specs.Str.Pattern.{EndsAtFirstMatch, FindsChar, FindsTextSuffix, StripsSuffix}
use Rattle.std.proofs.Math.Nat.{eq-or-lt_of_le}
use Rattle.std.proofs.Math.Seq.{get_or-append_seam, take-append-add, take-append_seam}
use Rattle.std.proofs.lemmas.Bool.{cases_lt}
use Rattle.std.proofs.lemmas.Str.{len_utf8_ascii}
use Rattle.std.proofs.lemmas.Str.Pattern.{NoCharPasses-char}
use Rattle.plural_message.specs.Messages.{placeholder, pieces_joined, IsFilling}

-- none of the pieces contains a placeholder
abbrev AreUncut : List (List ℕ) → Type 0
AreUncut pieces = AllByRecursion (λ piece. ¬ (HasSubslice piece placeholder)) pieces

-- a list that is shorter than a placeholder contains none
none_in_short : (xs : List ℕ) → length xs ≤ 1 → ¬ (HasSubslice xs placeholder)
none_in_short xs short h = omega (arith, short, ap length h.2, length-append h.0 (placeholder ++ h.1))

-- filling nothing gives nothing
pub filling-nil : (number rest : List ℕ) → length rest ≡ 0 → IsFilling number rest []
filling-nil number [] none = record { pieces = []; uncut = tt; cut = refl; filled_is = refl }
filling-nil number (x ∷ rest) none = absurd (omega (arith, none))

-- ---- A placeholder at the front

-- an empty piece before others
joined_by-empty : (separator p : List ℕ) (ps : List (List ℕ))
    → separator ++ pieces_joined separator (p ∷ ps) ≡ pieces_joined separator ([] ∷ p ∷ ps)
joined_by-empty separator p ps = sym (append_assoc separator p (flat_map (λ q. separator ++ q) ps))

-- a placeholder before a text, given the text's pieces
placeholder_more : (number text filled : List ℕ) (pieces : List (List ℕ)) → AreUncut pieces
    → text ≡ pieces_joined placeholder pieces → filled ≡ pieces_joined number pieces
    → IsFilling number (placeholder ++ text) (number ++ filled)
placeholder_more number text filled [] uncut cut filled_is =
    record {
      pieces = [] ∷ [] ∷ [];
      uncut = (none_in_short [] (omega arith), (none_in_short [] (omega arith), tt));
      cut = ap (λ l. placeholder ++ l) cut ∙ joined_by-empty placeholder [] [];
      filled_is = ap (λ l. number ++ l) filled_is ∙ joined_by-empty number [] [];
    }
placeholder_more number text filled (p ∷ ps) uncut cut filled_is =
    record {
      pieces = [] ∷ p ∷ ps;
      uncut = (none_in_short [] (omega arith), uncut);
      cut = ap (λ l. placeholder ++ l) cut ∙ joined_by-empty placeholder p ps;
      filled_is = ap (λ l. number ++ l) filled_is ∙ joined_by-empty number p ps;
    }

-- a placeholder is replaced by the number
filling-placeholder : (number text filled : List ℕ) → IsFilling number text filled
    → IsFilling number (placeholder ++ text) (number ++ filled)
filling-placeholder number text filled filling =
    placeholder_more number text filled filling.pieces filling.uncut filling.cut filling.filled_is

-- ---- Characters at the front that begin no placeholder

-- a first piece with such a character before it contains no placeholder
none_behind : (x : ℕ) (text piece : List ℕ) (pieces : List (List ℕ)) → ((rest : List ℕ) → x ∷ text ≡ placeholder ++ rest → ⊥)
    → ¬ (HasSubslice piece placeholder) → text ≡ pieces_joined placeholder (piece ∷ pieces)
    → (a b : List ℕ) → x ∷ piece ≡ a ++ (placeholder ++ b) → ⊥
none_behind x text piece pieces begins none cut [] b e =
    let behind = flat_map (λ q. placeholder ++ q) pieces in
    begins (b ++ behind) (ap (λ l. x ∷ l) cut ∙ ap (λ l. l ++ behind) e ∙ append_assoc placeholder b behind)
none_behind x text piece pieces begins none cut (y ∷ a) b e = none (a, b, ap (λ l. drop 1 l) e)

-- the character joins the first piece
character_more : (number : List ℕ) (x : ℕ) (text filled : List ℕ) (pieces : List (List ℕ))
    → ((rest : List ℕ) → x ∷ text ≡ placeholder ++ rest → ⊥)
    → AreUncut pieces → text ≡ pieces_joined placeholder pieces → filled ≡ pieces_joined number pieces
    → IsFilling number (x ∷ text) (x ∷ filled)
character_more number x text filled [] begins uncut cut filled_is =
    record {
      pieces = (x ∷ []) ∷ [];
      uncut = (none_in_short (x ∷ []) (omega arith), tt);
      cut = ap (λ l. x ∷ l) cut;
      filled_is = ap (λ l. x ∷ l) filled_is;
    }
character_more number x text filled (p ∷ ps) begins uncut cut filled_is =
    record {
      pieces = (x ∷ p) ∷ ps;
      uncut = (λ h. none_behind x text p ps begins uncut.0 cut h.0 h.1 h.2, uncut.1);
      cut = ap (λ l. x ∷ l) cut;
      filled_is = ap (λ l. x ∷ l) filled_is;
    }

-- no placeholder of the whole text begins in the front part
abbrev BeginsNone : List ℕ → List ℕ → Type 0
BeginsNone front text = (a b : List ℕ) → front ++ text ≡ a ++ (placeholder ++ b) → length front ≤ length a

-- such a front part stays as it is
filling-front : (number front text filled : List ℕ) → BeginsNone front text → IsFilling number text filled
    → IsFilling number (front ++ text) (front ++ filled)
filling-front number [] text filled behind filling = filling
filling-front number (x ∷ front) text filled behind filling =
    let f = filling-front number front text filled (λ a b e. omega (arith, behind (x ∷ a) b (ap (λ l. x ∷ l) e))) filling in
    character_more number x (front ++ text) (front ++ filled) f.pieces (λ b e. omega (arith, behind [] b e)) f.uncut f.cut f.filled_is

-- ---- The pieces that `split_inclusive` cuts at each `}`

-- a piece at the front of its text: it has no `}` before its end, and it ends with a `}`, or with
-- the text
record IsPiece (text piece : List ℕ) : Type 0 where
  least : (k : ℕ) → k < length text → get_or text k 0 ≡ 125 → length piece ≤ k + 1
  ends : length piece < length text → get_or text (length piece - 1) 0 ≡ 125

-- what the iterator says of a piece
is_piece : (text piece : List ℕ) → EndsAtFirstMatch (FindsChar 125) text piece → IsPiece text piece
is_piece text piece (None, found, whole) =
    record {
      least = λ k inside is. absurd (NoCharPasses-char 125 text k found (omega arith) inside is);
      ends = λ shorter. absurd (omega (arith, shorter, ap length whole.0));
    }
is_piece text piece (Some (i, j), found, cut) =
    let next : j ≡ i + 1 = found.1.ends ∙ ap (λ n. i + n) (len_utf8_ascii 125 (omega arith)) in
    let sizes : length piece ≡ length (take j text) = ap length (cut (omega (arith, next))) in
    let before : (k : ℕ) → k < length text → get_or text k 0 ≡ 125 → k < i → ⊥ =
    λ k inside is below. NoCharPasses-char 125 (take i text) k found.0 (omega arith) (omega (arith, inside, below, length-take i text))
    (get_or-take i text k 0 below ∙ is) in
    record {
      least =
          λ k inside is. ⊎_elim (λ below. absurd (before k inside is below))
          (λ above. omega (arith, above, next, sizes, length-take j text)) (cases_lt k i);
      ends = λ shorter. ap (λ n. get_or text n 0) (omega (arith, shorter, next, sizes, length-take j text)) ∙ found.1.byte (omega arith);
    }

-- a placeholder ends no earlier than the piece
placeholder_ends : (text piece a b : List ℕ) → IsPiece text piece → text ≡ a ++ (placeholder ++ b) → length piece ≤ length a + 2
placeholder_ends text piece a b is e =
    omega (
      arith,
      is.least (length a + 1) (omega (arith, ap length e, length-append a (placeholder ++ b)))
          (ap (λ l. get_or l (length a + 1) 0) e ∙ get_or-append-add a (placeholder ++ b) 1 0),
    )

-- a piece that ends with a placeholder is filled: the part before the placeholder stays
pub cut_filling : (number text piece before rest filled : List ℕ) → EndsAtFirstMatch (FindsChar 125) text piece → text ≡ piece ++ rest
    → StripsSuffix (FindsTextSuffix placeholder) piece before → IsFilling number rest filled
    → IsFilling number text (before ++ (number ++ filled))
cut_filling number text piece before rest filled found whole (n, suffix, front, _) filling =
    let ends : piece ≡ before ++ placeholder = suffix.1 ∙ ap (λ l. l ++ placeholder) (sym front) in
    let parts : text ≡ before ++ (placeholder ++ rest) = whole ∙ ap (λ l. l ++ rest) ends ∙ append_assoc before placeholder rest in
    let behind : BeginsNone before (placeholder ++ rest) =
    λ a b e. omega (
      arith,
      placeholder_ends text piece a b (is_piece text piece found) (parts ∙ e),
      ap length ends,
      length-append before placeholder,
    ) in
    subst (λ l. IsFilling number l (before ++ (number ++ filled))) (sym parts)
    (filling-front number before (placeholder ++ rest) (number ++ filled) behind (filling-placeholder number rest filled filling))

-- no placeholder begins in a piece that doesn't end with one
begins_none : (text piece rest : List ℕ) → IsPiece text piece → text ≡ piece ++ rest
    → ((front : List ℕ) → piece ≡ front ++ placeholder → ⊥) → BeginsNone piece rest
begins_none text piece rest is whole none a b e =
    let at : text ≡ a ++ (placeholder ++ b) = whole ∙ e in
    let longer : length text ≡ length a + length (placeholder ++ b) = ap length at ∙ length-append a (placeholder ++ b) in
    let front : take (length piece) (a ++ (placeholder ++ b)) ≡ piece =
    ap (λ l. take (length piece) l) (sym e) ∙ take-append_seam piece rest in
    let not_with_it : length piece ≡ length a + 2 → ⊥ =
    λ same. none a (sym front ∙ ap (λ n. take n (a ++ (placeholder ++ b))) same ∙ take-append-add a (placeholder ++ b) 2) in
    let brace : get_or text (length a) 0 ≡ 123 = ap (λ l. get_or l (length a) 0) at ∙ get_or-append_seam a 123 (125 ∷ b) 0 in
    let not_in_it : length piece ≡ length a + 1 → ⊥ =
    λ same. let last : length a ≡ length piece - 1 = omega (arith, same) in
    let closing : get_or text (length a) 0 ≡ 125 = ap (λ n. get_or text n 0) last ∙ is.ends (omega (arith, same, longer)) in
    omega (arith, brace, closing) in
    ⊎_elim (λ same. absurd (not_with_it same))
    (λ less. ⊎_elim (λ same. absurd (not_in_it same)) (λ below. omega (arith, below)) (eq-or-lt_of_le (omega (arith, less))))
    (eq-or-lt_of_le (placeholder_ends text piece a b is at))

-- any other piece stays
pub uncut_filling : (number text piece rest filled : List ℕ) → EndsAtFirstMatch (FindsChar 125) text piece → text ≡ piece ++ rest
    → FindsTextSuffix placeholder piece None → IsFilling number rest filled
    → IsFilling number text (piece ++ filled)
uncut_filling number text piece rest filled found whole none filling =
    subst (λ l. IsFilling number l (piece ++ filled)) (sym whole)
    (filling-front number piece rest filled (begins_none text piece rest (is_piece text piece found) whole none) filling)
