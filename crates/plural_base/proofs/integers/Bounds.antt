-- One more than the greatest of some numbers.
use Rattle.std.proofs.Common.{◌≡◌, ◌<◌, ℕ, ◌+◌, List, [], ◌∷◌, ◌++◌, length, take, get_or, ap, sym, ◌∙◌, arith}
use Rattle.std.specs.Prelude.{map, max}
use Rattle.std.specs.Ordering.{ord_max}
use Rattle.std.proofs.Common.{nat_cmp}
use Rattle.std.proofs.lemmas.Bool.Decides.{nat_tests}
use Rattle.std.proofs.lemmas.List.{map-append, take_more}
use Rattle.plural_base.specs.ToldCategories.{first_above}

-- the greater of two as the code has it
pub greater_is : (a b : ℕ) → ord_max nat_cmp a b ≡ max a b
greater_is a b = grind (arith, nat_tests)

max_three : (a b c : ℕ) → max a (max b c) ≡ max (max a b) c
max_three a b c = omega arith

-- of two lists it is the greater one of theirs
pub first_above-append : (a b : List ℕ) → first_above (a ++ b) ≡ max (first_above a) (first_above b)
first_above-append [] b = omega arith
first_above-append (n ∷ ns) b = ap (max (n + 1)) (first_above-append ns b) ∙ max_three (n + 1) (first_above ns) (first_above b)

-- of a list and those that are left
pub one_list_more : (bound found next : ℕ) (ends rest : List ℕ) → found ≡ first_above ends → next ≡ max bound found
    → max next (first_above rest) ≡ max bound (first_above (ends ++ rest))
one_list_more bound found next ends rest is more =
    ap (λ n. max n (first_above rest)) (more ∙ ap (max bound) is) ∙ sym (max_three bound (first_above ends) (first_above rest))
    ∙ ap (max bound) (sym (first_above-append ends rest))

-- of one number more
pub one_end_more : (ranges : List (ℕ × ℕ)) (k bound end next : ℕ) → k < length ranges
    → bound ≡ first_above (map (λ (range : ℕ × ℕ). range.1) (take k ranges)) → end ≡ (get_or ranges k (0, 0)).1 → next ≡ max bound (end + 1)
    → next ≡ first_above (map (λ (range : ℕ × ℕ). range.1) (take (k + 1) ranges))
one_end_more ranges k bound end next within so_far is more =
    let ends = λ (range : ℕ × ℕ). range.1 in
    let last = (get_or ranges k (0, 0)).1 in
    let one : max bound (end + 1) ≡ max (first_above (map ends (take k ranges))) (first_above (last ∷ [])) =
    ap (λ b. max b (end + 1)) so_far ∙ ap (max (first_above (map ends (take k ranges)))) (ap (λ e. e + 1) is ∙ omega arith) in
    more ∙ one
    ∙ sym (ap (λ l. first_above (map ends l)) (take_more ranges k (0, 0) within)
    ∙ ap first_above (map-append ends (take k ranges) (get_or ranges k (0, 0) ∷ []))
    ∙ first_above-append (map ends (take k ranges)) (last ∷ []))
