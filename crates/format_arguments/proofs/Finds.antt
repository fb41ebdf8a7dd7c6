-- The first argument that shows that it is the number.
use Rattle.std.proofs.Common.{◌≡◌, ◌+◌, ◌<◌, ◌≤◌, ◌∙◌, ℕ, suc, List, Bool, true, false, find, length, drop, get_or, Some, None, ap, sym, add-one, if◌then◌else◌}
use Rattle.std.proofs.Math.Seq.{drop-cons}
use Rattle.std.proofs.lemmas.List.{drop_all}

-- where an element stands, the search goes on behind it, or ends with it
at_element : {A : Type 0} (p : A → Bool) (xs : List A) (k : ℕ) (d : A) → k < length xs
    → find p (drop k xs) ≡ (if p (get_or xs k d) then Some (get_or xs k d) else find p (drop (suc k) xs))
at_element p xs k d lt = ap (find p) (drop-cons xs k d lt)

-- an element that doesn't is passed
pub passed : {A : Type 0} (p : A → Bool) (xs : List A) (k : ℕ) (d : A) → k < length xs → p (get_or xs k d) ≡ false
    → find p (drop (k + 1) xs) ≡ find p (drop k xs)
passed p xs k d lt isnt =
    ap (λ (n : ℕ). find p (drop n xs)) (add-one k)
    ∙ sym (at_element p xs k d lt ∙ ap (λ (t : Bool). if t then Some (get_or xs k d) else find p (drop (suc k) xs)) isnt)

-- one that does is found
pub found : {A : Type 0} (p : A → Bool) (xs : List A) (k : ℕ) (d : A) → k < length xs → p (get_or xs k d) ≡ true
    → find p (drop k xs) ≡ Some (get_or xs k d)
found p xs k d lt is =
    at_element p xs k d lt ∙ ap (λ (t : Bool). if t then Some (get_or xs k d) else find p (drop (suc k) xs)) is

-- behind the last one there is none
pub nowhere : {A : Type 0} (p : A → Bool) (xs : List A) (k : ℕ) → length xs ≤ k → find p (drop k xs) ≡ None
nowhere p xs k le = ap (find p) (drop_all k xs le)
