-- Cutting a text at a byte, and the lines of a file.
use Rattle.std.proofs.Common.{◌≡◌, ◌+◌, ◌<◌, ◌≤◌, ◌==◌, ℕ, suc, List, [], ◌∷◌, ◌++◌, Bool, true, false, Option, Some, None, IfSome, length, take, drop, get_or, refl, sym, ap, ◌∙◌, arith, append_assoc, add-one, ne_eqb, eq-eqb, if◌then◌else◌}
use Rattle.std.specs.Borrow.{Bor}
use Rattle.std.proofs.lemmas.List.{append-nil, drop_all, take_all, take_more}
use Rattle.std.proofs.Math.Seq.{drop-cons}
use Rattle.po_catalog.specs.FileLines.{begun_with, cut_at, first_line_begun_with, lines_left, lines_of, numbered}
use Rattle.po_catalog.specs.Inner.LineViews.{file_bytes_left, cut_view, left_view}

-- bytes before a text that is cut
abbrev pub behind : List ℕ → List ℕ × Option (List ℕ) → List ℕ × Option (List ℕ)
behind before cut = (before ++ cut.0, cut.1)

-- a text that is cut at its first byte
abbrev pub at_once : List ℕ → List ℕ × Option (List ℕ)
at_once rest = ([], Some rest)

-- the first k bytes, and then the rest is cut
abbrev pub cut_from : ℕ → List ℕ → ℕ → List ℕ × Option (List ℕ)
cut_from byte s k = behind (take k s) (cut_at byte (drop k s))

abbrev pub uncut : List ℕ → List ℕ × Option (List ℕ)
uncut s = (s, None)

abbrev pub cut_before : List ℕ → List ℕ → List ℕ × Option (List ℕ)
cut_before front rest = (front, Some rest)

-- a byte that isn't the one is passed
pub cut_later : (byte : ℕ) (s : List ℕ) (k : ℕ) → k < length s → (get_or s k 0 ≡ byte → ⊥) → cut_from byte s k ≡ cut_from byte s (k + 1)
cut_later byte s k lt ne =
    let x = get_or s k 0 in
    let rest = drop (suc k) s in
    let cut = cut_at byte rest in
    ap (λ (d : List ℕ). behind (take k s) (cut_at byte d)) (drop-cons s k 0 lt)
    ∙ (ap (λ (t : Bool). behind (take k s) (if t then at_once rest else begun_with x cut)) (ne_eqb x byte ne)
    ∙ (ap (λ (t : List ℕ). (t, cut.1)) (sym (append_assoc (take k s) (x ∷ []) cut.0))
    ∙ (ap (λ (t : List ℕ). behind t cut) (sym (take_more s k 0 lt))
    ∙ ap (λ (n : ℕ). behind (take (k + 1) s) (cut_at byte (drop n s))) (sym (add-one k)))))

-- the text is cut where the byte is found
pub cut_here : (byte : ℕ) (s : List ℕ) (k : ℕ) → k < length s → get_or s k 0 ≡ byte → cut_from byte s k ≡ (take k s, Some (drop (k + 1) s))
cut_here byte s k lt e =
    let x = get_or s k 0 in
    let rest = drop (suc k) s in
    ap (λ (d : List ℕ). behind (take k s) (cut_at byte d)) (drop-cons s k 0 lt)
    ∙ (ap (λ (t : Bool). behind (take k s) (if t then at_once rest else begun_with x (cut_at byte rest))) (eq-eqb x byte e)
    ∙ (ap (λ (t : List ℕ). cut_before t rest) (append-nil (take k s))
    ∙ ap (λ (n : ℕ). cut_before (take k s) (drop n s)) (sym (add-one k))))

-- the text is whole where the byte isn't found
pub cut_nowhere : (byte : ℕ) (s : List ℕ) (k : ℕ) → length s ≤ k → cut_from byte s k ≡ (s, None)
cut_nowhere byte s k le =
    ap (λ (d : List ℕ). behind (take k s) (cut_at byte d)) (drop_all k s le)
    ∙ ap (λ (t : List ℕ). uncut t) (append-nil (take k s) ∙ take_all k s le)

-- the first line ends at the first newline
pub first_line : (s : List ℕ) → lines_of s ≡ (cut_at 10 s).0 ∷ lines_left (cut_at 10 s).1
first_line [] = refl
first_line (b ∷ s) =
    elim (b == 10) as (λ (t : Bool). (if t then [] ∷ lines_of s else first_line_begun_with b (lines_of s))
    ≡ (if t then at_once s else begun_with b (cut_at 10 s)).0 ∷ lines_left (if t then at_once s else begun_with b (cut_at 10 s)).1) [
      | true ↦ refl
      | false ↦ ap (first_line_begun_with b) (first_line s)
    ]

-- the first line is taken, and the next one has the next number
pub next_view : (now : List (ℕ × List ℕ)) (n : ℕ) (left : Option (Bor (List ℕ))) (rest : Bor (List ℕ))
    (cut : Bor (List ℕ) × Option (Bor (List ℕ)))
    → now ≡ numbered n (lines_left (left_view left)) → left ≡ Some rest → cut_view cut ≡ cut_at 10 rest.now
    → now ≡ (n, cut.0.now) ∷ numbered (n + 1) (lines_left (left_view cut.1))
next_view now n left rest cut view is e =
    view
    ∙ (ap (λ (r : Option (Bor (List ℕ))). numbered n (lines_left (left_view r))) is
    ∙ (ap (numbered n) (first_line rest.now)
    ∙ ap (λ (x : List ℕ × Option (List ℕ)). (n, x.0) ∷ numbered (n + 1) (lines_left x.1)) (sym e)))

-- the number of the next line fits where that of the line before it did
pub next_fits : (n limit : ℕ) (rest : List ℕ) (after : Option (Bor (List ℕ))) → IfSome after (λ s. length s.now < length rest)
    → n + (length rest + 1) < limit → n + 1 + file_bytes_left after < limit
next_fits n limit rest None h fits = omega arith
next_fits n limit rest (Some s) h fits = omega (arith, h)
