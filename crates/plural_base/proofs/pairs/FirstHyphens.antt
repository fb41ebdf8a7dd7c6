-- How a text is split at its first two hyphens.
use Rattle.std.proofs.Common.{◌≡◌, ℕ, zero, suc, ◌+◌, ◌<◌, ◌≤◌, ◌==◌, List, [], ◌∷◌, ◌++◌, length, take, drop, Bool, true, false, not}
use Rattle.std.proofs.Common.{◌&&◌, codes, MatchOption, Option, Some, None, sym, ap, subst, inl, inr, ◌∙◌, arith, append_assoc}
use Rattle.std.proofs.Common.{length-append}
use Rattle.std.specs.Borrow.{Bor}
use Rattle.std.specs.List.{list_all}
use Rattle.std.specs.Str.Pattern.{FindsText}
use Rattle.std.proofs.Math.Seq.{take-append_seam, drop-append_seam, drop-append-add}
use Rattle.std.proofs.lemmas.Bool.{cases_lt}

-- no byte is a hyphen
abbrev pub has_no_hyphen : List ℕ → Bool
has_no_hyphen xs = list_all (λ b. not (b == 45)) xs

-- the second of two that hold
second : (a b : Bool) → (a && b) ≡ true → b ≡ true
second true b h = h
second false b h = absurd cc

-- no hyphen begins before its end
no_hyphen_before : (xs rest more : List ℕ) (i : ℕ) → has_no_hyphen xs ≡ true → i < length xs → drop i (xs ++ rest) ≡ 45 ∷ more → ⊥
no_hyphen_before [] rest more i free below here = absurd (omega arith)
no_hyphen_before (x ∷ xs) rest more zero free below here =
    let same : x ≡ 45 = cc in let found : false ≡ true = subst (λ b. has_no_hyphen (b ∷ xs) ≡ true) same free in cc
no_hyphen_before (x ∷ xs) rest more (suc i) free below here =
    no_hyphen_before xs rest more i (second (not (x == 45)) (has_no_hyphen xs) free) (omega arith) here

-- what `split_once` says at two hyphens
abbrev pub SplitsAtHyphens : List ℕ → Option (Bor (List ℕ) × Bor (List ℕ)) → Type 0
SplitsAtHyphens text r =
    MatchOption r (FindsText (codes "--") text None)
    (λ x. (i : ℕ) × (j : ℕ) × FindsText (codes "--") text (Some (i, j)) × (x.0.now ≡ take i text) × (x.1.now ≡ drop j text) × (i ≤ j) ×
    (length x.0.now ≡ i) × (length x.1.now + j ≡ length text))

-- after its front, the text continues with the hyphens
behind_front : (text front back : List ℕ) → text ≡ front ++ codes "--" ++ back → drop (length front) text ≡ codes "--" ++ back
behind_front text front back is =
    ap (drop (length front)) (is ∙ append_assoc front (codes "--") back) ∙ drop-append_seam front (codes "--" ++ back)

-- it splits after a front without hyphens
pub split_after_front : (text front back : List ℕ) (r : Option (Bor (List ℕ) × Bor (List ℕ))) → SplitsAtHyphens text r
    → text ≡ front ++ codes "--" ++ back → has_no_hyphen front ≡ true → MatchOption r ⊥ (λ x. (x.0.now ≡ front) × (x.1.now ≡ back))
split_after_front text front back None h is free =
    h (length front) (omega (arith, ap length (is ∙ append_assoc front (codes "--") back), length-append front (codes "--" ++ back))) back
    (behind_front text front back is)
split_after_front text front back (Some x) h is free =
    let whole : text ≡ front ++ (codes "--" ++ back) = is ∙ append_assoc front (codes "--") back in
    let not_before : h.0 < length front
    → ⊥ = λ l. no_hyphen_before front (codes "--" ++ back) (45 ∷ drop h.1 text) h.0 free l (ap (drop h.0) (sym whole) ∙ h.2.1.split) in
    let not_after : length front < h.0 → ⊥ = λ l. h.2.0 (length front) l back (behind_front text front back is) in
    let at_front : h.0 ≡ length front = elim (cases_lt h.0 (length front)) [
      | inl l ↦ absurd (not_before l)
      | inr up ↦ elim (cases_lt (length front) h.0) [ inl l ↦ absurd (not_after l) | inr down ↦ omega arith ]
    ] in
    let past : h.1 ≡ length front + 2 = omega (arith, h.2.1.ends) in (
      h.3 ∙ ap (λ k. take k text) at_front ∙ ap (take (length front)) whole ∙ take-append_seam front (codes "--" ++ back),
      h.4 ∙ ap (λ k. drop k text) past ∙ ap (drop (length front + 2)) whole ∙ drop-append-add front (codes "--" ++ back) 2,
    )
