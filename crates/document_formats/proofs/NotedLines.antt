-- Lines of findings, of notes, and a last one, piece by piece.
use Rattle.std.proofs.Common.{◌≡◌, ℕ, List, [], ◌++◌, ap, ◌∙◌, append_assoc}
use Rattle.std.specs.List.{flat_map}

pub in_three : {A B : Type 0} (f : A → List ℕ) (g : B → List ℕ) (xs found : List A) (ys seen : List B)
    (start first second end last line : List ℕ) → start ≡ [] → found ≡ xs → seen ≡ ys → first ≡ start ++ flat_map f found
    → second ≡ first ++ flat_map g seen → line ≡ last → end ≡ second ++ line → end ≡ flat_map f xs ++ (flat_map g ys ++ last)
in_three f g xs found ys seen start first second end last line none are noted first_is second_is line_is end_is =
    let one : first ≡ flat_map f xs = first_is ∙ ap (λ t. t ++ flat_map f found) none ∙ ap (flat_map f) are in
    let two : second ≡ flat_map f xs ++ flat_map g ys =
    second_is ∙ ap (λ t. t ++ flat_map g seen) one ∙ ap (λ l. flat_map f xs ++ flat_map g l) noted in
    end_is ∙ ap (λ t. t ++ line) two ∙ ap (λ l. (flat_map f xs ++ flat_map g ys) ++ l) line_is
    ∙ append_assoc (flat_map f xs) (flat_map g ys) last
