-- The lines of an input.
use Rattle.std.proofs.Common.{◌∙◌, ◌≡◌, ◌-◌, min, ℕ, zero, suc, ap, get_or, drop, ◌==◌, true, ◌≤◌, ◌<◌, ◌+◌, List, [], ◌∷◌, ◌++◌}
use Rattle.std.proofs.Common.{length, take, refl, sym, arith}
use Rattle.std.specs.Prelude.{◌≢◌}
use Rattle.std.proofs.lemmas.Bool.{eq-eqb, ne_eqb}
use Rattle.std.proofs.lemmas.List.{take_min, length-take, take-append-le, take_all, length-append, length-take-le}
use Rattle.std.proofs.lemmas.List.{take-append-drop, drop_more, get_or-take}
use Rattle.std.proofs.Math.Seq.{take-append-add}
use Rattle.number_lines.specs.InputLines.{HasNoEnd, input_lines_of}

-- ---- Ends of lines

-- bytes without an end, and a newline, are a line
pub ended : (last rest : List ℕ) → HasNoEnd last → input_lines_of (last ++ 10 ∷ rest) ≡ last ∷ input_lines_of rest
ended [] rest none = refl
ended (byte ∷ bytes) rest none = rw (ne_eqb byte 10 none.0, ended bytes rest none.1) refl

-- bytes without an end are one line
pub unended : (byte : ℕ) (bytes : List ℕ) → HasNoEnd (byte ∷ bytes) → input_lines_of (byte ∷ bytes) ≡ (byte ∷ bytes) ∷ []
unended byte [] none = rw (ne_eqb byte 10 none.0) refl
unended byte (other ∷ bytes) none = rw (ne_eqb byte 10 none.0, unended other bytes none.1) refl

pub no_end_both : (bytes more : List ℕ) → HasNoEnd bytes → HasNoEnd more → HasNoEnd (bytes ++ more)
no_end_both [] more none later = later
no_end_both (byte ∷ bytes) more none later = (none.0, no_end_both bytes more none.1 later)

-- bytes of which none is a newline
pub no_end_all : (bytes : List ℕ) → ((i : ℕ) → i < length bytes → get_or bytes i 0 ≢ 10) → HasNoEnd bytes
no_end_all [] each = tt
no_end_all (byte ∷ bytes) each = (each 0 (omega arith), no_end_all bytes (λ i below. each (suc i) (omega arith)))

-- a byte between those before it and those behind it
pub at_byte : (bytes : List ℕ) (k byte : ℕ) → k < length bytes → get_or bytes k 0 ≡ byte → bytes ≡ take k bytes ++ byte ∷ drop (k + 1) bytes
at_byte bytes k byte within is =
    sym (take-append-drop k bytes)
    ∙ ap (λ (l : List ℕ). take k bytes ++ l) (drop_more bytes k 0 within ∙ ap (λ (c : ℕ). c ∷ drop (k + 1) bytes) is)

-- the bytes before the first newline
pub no_end_before : (bytes : List ℕ) (end : ℕ) → end ≤ length bytes
    → ((k : ℕ) → 0 ≤ k → k < end → ¬ ((get_or bytes k 0 == 10) ≡ true)) → HasNoEnd (take end bytes)
no_end_before bytes end within each =
    let size : length (take end bytes) ≡ end = length-take-le end bytes within in
    no_end_all (take end bytes) (λ i below e.
    let inside : i < end = omega (arith, size, below) in
    each i (omega arith) inside (eq-eqb (get_or bytes i 0) 10 (sym (get_or-take end bytes i 0 inside) ∙ e)))

-- ---- What is kept of a line: not more than n bytes

-- what is kept of a line with more bytes
pub kept_more : (n : ℕ) (last more : List ℕ) → take n (take n last ++ more) ≡ take n (last ++ more)
kept_more zero last more = refl
kept_more (suc n) [] more = refl
kept_more (suc n) (byte ∷ last) more = ap (λ (l : List ℕ). byte ∷ l) (kept_more n last more)

pub kept_bound : (n : ℕ) (last : List ℕ) → length (take n last) ≤ n
kept_bound n last = omega (arith, length-take n last)

-- what is kept with bytes for which there is room
pub kept_with : (n : ℕ) (kept more : List ℕ) → length kept ≤ n
    → kept ++ take (min (n - length kept) (length more)) more ≡ take n (kept ++ more)
kept_with n kept more room =
    let whole : length kept + (n - length kept) ≡ n = omega arith in
    rw (take_min (n - length kept) more)
    (sym (take-append-add kept more (n - length kept)) ∙ ap (λ (k : ℕ). take k (kept ++ more)) whole)

-- a line that is kept whole
pub kept_whole : (n : ℕ) (last : List ℕ) → length (take (n + 1) last) ≤ n → take (n + 1) last ≡ last
kept_whole n last room =
    let short : length last ≤ n = omega (arith, length-take (n + 1) last, room) in
    take_all (n + 1) last (omega arith)

-- a line of which too much is kept is too long
pub kept_long : (n : ℕ) (last : List ℕ) → n < length (take (n + 1) last) → n < length last
kept_long n last full = omega (arith, length-take (n + 1) last, full)

-- of a line with a byte something is kept
pub kept_nothing : (n : ℕ) (last : List ℕ) → take (n + 1) last ≡ [] → last ≡ []
kept_nothing n [] none = refl
kept_nothing n (byte ∷ bytes) none =
    let empty : length (take (n + 1) (byte ∷ bytes)) ≡ 0 = rw none refl in
    absurd (omega (arith, length-take (n + 1) (byte ∷ bytes), empty))

-- ---- Whether a line has begun

pub no_items : (xs : List ℕ) → length xs ≡ 0 → xs ≡ []
no_items [] none = refl
no_items (x ∷ xs) none = absurd (omega arith)
