-- Tests of mapped lists, and of groups that are present.
use Rattle.std.proofs.Common.{◌≡◌, List, [], ◌∷◌, ◌||◌, Bool, false, map, ap, refl, length, ◌==◌}
use Rattle.std.specs.List.{list_any, list_all}
use Rattle.plural_reference.specs.Truth.{is_true_of}

-- a test of mapped elements
pub list_any-map : {A B : Type 0} (test : B → Bool) (f : A → B) (xs : List A) → list_any test (map f xs) ≡ list_any (λ x. test (f x)) xs
list_any-map test f [] = refl
list_any-map test f (x ∷ xs) = ap (λ b. test (f x) || b) (list_any-map test f xs)

-- if there is a group, some group decides
pub is_true_of-map : {A B : Type 0} (test : B → Bool) (f : A → List B) (xs : List A)
    → (length xs == 0) ≡ false → is_true_of test (map f xs) ≡ list_any (λ x. list_all test (f x)) xs
is_true_of-map test f [] h = cc
is_true_of-map test f (x ∷ xs) h = list_any-map (list_all test) f (x ∷ xs)
