-- The number of a line is one more than the newlines before it.
use Rattle.std.proofs.Common.{◌≡◌, ◌+◌, ◌==◌, ◌∙◌, ℕ, List, [], ◌∷◌, ◌++◌, Bool, true, false, All, refl, sym, ap, arith, inl, inr, if◌then◌else◌}
use Rattle.std.proofs.lemmas.Bool.{cases_Bool}
use Rattle.std.proofs.lemmas.List.Elements.{All-nil, All-cons, All-tail, All-same, All-weaker}
use Rattle.po_catalog.specs.FileLines.{begun_with, cut_at, first_line_begun_with, lines_left, lines_of, newlines, numbered, NumbersCountNewlines}
use Rattle.po_catalog.proofs.Cuts.{at_once, first_line}

-- a line of a text, with its number, where the first line has the number k
abbrev pub IsNumberedFrom : ℕ → List ℕ → ℕ × List ℕ → Type 0
IsNumberedFrom k s line = (before : List ℕ) × (after : List ℕ) × (s ≡ before ++ (line.1 ++ after)) × (line.0 ≡ newlines before + k)

-- what is cut off stands in front
cut_front : (byte : ℕ) (s : List ℕ) → (after : List ℕ) × (s ≡ (cut_at byte s).0 ++ after)
cut_front byte [] = ([], refl)
cut_front byte (b ∷ s) =
    let more : (after : List ℕ) × (s ≡ (cut_at byte s).0 ++ after) = cut_front byte s in
    elim (b == byte) as (λ (t : Bool). (after : List ℕ) × (b ∷ s ≡ (if t then at_once s else begun_with b (cut_at byte s)).0 ++ after)) [
      | true ↦ (b ∷ s, refl)
      | false ↦ (more.0, ap (λ (t : List ℕ). b ∷ t) more.1)
    ]

-- a newline before a text makes its lines later by one
behind_newline : (b k : ℕ) (s : List ℕ) (line : ℕ × List ℕ) → (b == 10) ≡ true → IsNumberedFrom (k + 1) s line
    → IsNumberedFrom k (b ∷ s) line
behind_newline b k s line e h =
    let one : newlines (b ∷ h.0) ≡ newlines h.0 + 1 = ap (λ (t : Bool). if t then newlines h.0 + 1 else newlines h.0) e in
    (b ∷ h.0, h.1, ap (λ (t : List ℕ). b ∷ t) h.2, omega (arith, h.3, one))

-- another byte doesn't
behind_byte : (b k : ℕ) (s : List ℕ) (line : ℕ × List ℕ) → (b == 10) ≡ false → IsNumberedFrom k s line → IsNumberedFrom k (b ∷ s) line
behind_byte b k s line e h =
    let none : newlines (b ∷ h.0) ≡ newlines h.0 = ap (λ (t : Bool). if t then newlines h.0 + 1 else newlines h.0) e in
    (b ∷ h.0, h.1, ap (λ (t : List ℕ). b ∷ t) h.2, omega (arith, h.3, none))

-- the lines of a text that begins with a newline
at_newline : (b k : ℕ) (s : List ℕ) → (b == 10) ≡ true → All (IsNumberedFrom (k + 1) s) (numbered (k + 1) (lines_of s))
    → All (IsNumberedFrom k (b ∷ s)) (numbered k (lines_of (b ∷ s)))
at_newline b k s e h =
    let whole : lines_of (b ∷ s) ≡ [] ∷ lines_of s = ap (λ (t : Bool). if t then [] ∷ lines_of s else first_line_begun_with b (lines_of s)) e in
    let first : IsNumberedFrom k (b ∷ s) (k, []) = ([], b ∷ s, refl, omega arith) in
    All-same (IsNumberedFrom k (b ∷ s)) (numbered k (lines_of (b ∷ s))) ((k, []) ∷ numbered (k + 1) (lines_of s)) (ap (numbered k) whole)
    (All-cons (IsNumberedFrom k (b ∷ s)) (k, []) (numbered (k + 1) (lines_of s)) first
    (All-weaker (IsNumberedFrom (k + 1) s) (IsNumberedFrom k (b ∷ s)) (λ line. behind_newline b k s line e)
    (numbered (k + 1) (lines_of s)) h))

-- the lines of a text that begins with another byte
at_byte : (b k : ℕ) (s : List ℕ) → (b == 10) ≡ false → All (IsNumberedFrom k s) (numbered k (lines_of s))
    → All (IsNumberedFrom k (b ∷ s)) (numbered k (lines_of (b ∷ s)))
at_byte b k s e h =
    let line = (cut_at 10 s).0 in
    let later = lines_left (cut_at 10 s).1 in
    let front : (after : List ℕ) × (s ≡ line ++ after) = cut_front 10 s in
    let whole : lines_of (b ∷ s) ≡ (b ∷ line) ∷ later
    = ap (λ (t : Bool). if t then [] ∷ lines_of s else first_line_begun_with b (lines_of s)) e ∙ ap (first_line_begun_with b) (first_line s) in
    let first : IsNumberedFrom k (b ∷ s) (k, b ∷ line) = ([], front.0, ap (λ (t : List ℕ). b ∷ t) front.1, omega arith) in
    let rest : All (IsNumberedFrom k s) (numbered (k + 1) later)
    = All-tail (IsNumberedFrom k s) (k, line) (numbered (k + 1) later)
    (All-same (IsNumberedFrom k s) ((k, line) ∷ numbered (k + 1) later) (numbered k (lines_of s))
    (sym (ap (numbered k) (first_line s))) h) in
    All-same (IsNumberedFrom k (b ∷ s)) (numbered k (lines_of (b ∷ s))) ((k, b ∷ line) ∷ numbered (k + 1) later) (ap (numbered k) whole)
    (All-cons (IsNumberedFrom k (b ∷ s)) (k, b ∷ line) (numbered (k + 1) later) first
    (All-weaker (IsNumberedFrom k s) (IsNumberedFrom k (b ∷ s)) (λ x. behind_byte b k s x e) (numbered (k + 1) later) rest))

-- each line of a text has its number
numbered_from : (k : ℕ) (s : List ℕ) → All (IsNumberedFrom k s) (numbered k (lines_of s))
numbered_from k [] = All-cons (IsNumberedFrom k []) (k, []) [] ([], [], refl, omega arith) (All-nil (IsNumberedFrom k []))
numbered_from k (b ∷ s) =
    elim (cases_Bool (b == 10)) [
      | inl e ↦ at_newline b k s e (numbered_from (k + 1) s)
      | inr e ↦ at_byte b k s e (numbered_from k s)
    ]

pub count_newlines : NumbersCountNewlines
count_newlines = λ file. numbered_from 1 file
