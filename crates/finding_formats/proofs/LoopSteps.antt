-- One item more of a loop that appends what each item of a list gives.
use Rattle.std.proofs.Common.{◌≡◌, ℕ, ◌+◌, ◌<◌, List, ◌∷◌, ◌++◌, length, drop, ap, sym, ◌∙◌, append_assoc}
use Rattle.std.proofs.Math.ListN.{get_or}
use Rattle.std.proofs.lemmas.List.{drop_more}

-- the first of what is left is the item at the place
left_at : {X : Type 0} (xs : List X) (place : ℕ) (x : X) → place < length xs → x ≡ get_or xs place x
    → drop place xs ≡ x ∷ drop (place + 1) xs
left_at xs place x inside is = drop_more xs place x inside ∙ ap (λ first. first ∷ drop (place + 1) xs) (sym is)

-- what is appended so far, and what the items that are left give
pub one_more : {X A : Type 0} (gives : List X → List A) (xs : List X) (place : ℕ) (x : X) (piece old new whole : List A)
    → place < length xs → x ≡ get_or xs place x → gives (x ∷ drop (place + 1) xs) ≡ piece ++ gives (drop (place + 1) xs)
    → new ≡ old ++ piece → old ++ gives (drop place xs) ≡ whole → new ++ gives (drop (place + 1) xs) ≡ whole
one_more gives xs place x piece old new whole inside is given appended before =
    let rest = gives (drop (place + 1) xs) in
    ap (λ text. text ++ rest) appended
    ∙ append_assoc old piece rest
    ∙ ap (λ text. old ++ text) (sym given ∙ ap gives (sym (left_at xs place x inside is)))
    ∙ before
