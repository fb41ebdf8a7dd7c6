-- Texts with a separator between each two.
use Rattle.std.proofs.Common.{◌≡◌, ℕ, zero, suc, ◌+◌, ◌<◌, List, [], ◌∷◌, ◌++◌, length, take, map, refl, sym, ap, ◌∙◌, append_assoc}
use Rattle.std.proofs.Common.{append-nil, false, Some, arith}
use Rattle.std.specs.Prelude.{◌==◌, if◌then◌else◌, slice_get, flat_map}
use Rattle.std.proofs.lemmas.Bool.{ne_eqb}
use Rattle.plural_reference.specs.Serializer.{joined}

-- what is between the parts so far and the next one
abbrev pub between_after : {A : Type 0} → List ℕ → List A → List ℕ
between_after separator [] = []
between_after separator (x ∷ xs) = separator

-- one part more at the end, with the separator before it
joined-push : {A : Type 0} (separator : List ℕ) (text : A → List ℕ) (xs : List A) (x : A)
    → joined separator text xs ++ (between_after separator xs ++ text x) ≡ joined separator text (xs ++ x ∷ [])
joined-push separator text [] x = refl
joined-push separator text (first ∷ []) x = sym (append_assoc (text first) separator (text x))
joined-push separator text (first ∷ next ∷ xs) x =
    append_assoc (text first ++ separator) (joined separator text (next ∷ xs)) (separator ++ text x)
    ∙ ap (λ p. (text first ++ separator) ++ p) (joined-push separator text (next ∷ xs) x)

-- a later place is not the first one
not_zero : (k : ℕ) → (suc k == 0) ≡ false
not_zero k = ne_eqb (suc k) 0 (λ e. omega arith)

-- before the first part there is no separator, and before each other one there is
between_at : {A : Type 0} (separator : List ℕ) (xs : List A) (k : ℕ) → k < length xs
    → (if k == 0 then [] else separator) ≡ between_after separator (take k xs)
between_at separator xs zero h = refl
between_at separator [] (suc k) h = absurd (omega arith)
between_at separator (x ∷ xs) (suc k) h = rw (not_zero k) refl

-- one part more is taken
pub take_next : {A : Type 0} (xs : List A) (k : ℕ) (x : A) → Some x ≡ slice_get xs k → take (k + 1) xs ≡ take k xs ++ x ∷ []
take_next [] k x h = cc
take_next (y ∷ xs) zero x h = let e : y ≡ x = cc in ap (λ z. z ∷ []) e
take_next (y ∷ xs) (suc k) x h = let e : suc k + 1 ≡ suc (k + 1) = omega arith in ap (λ n. take n (y ∷ xs)) e
    ∙ ap (λ p. y ∷ p) (take_next xs k x h)

-- one part more is written
pub joined_more : {A : Type 0} (separator : List ℕ) (text : A → List ℕ) (xs : List A) (k : ℕ) (x : A) → k < length xs
    → Some x ≡ slice_get xs k → joined separator text (take k xs) ++ ((if k == 0 then [] else separator) ++ text x)
    ≡ joined separator text (take (k + 1) xs)
joined_more separator text xs k x h e =
    ap (λ b. joined separator text (take k xs) ++ (b ++ text x)) (between_at separator xs k h)
    ∙ joined-push separator text (take k xs) x
    ∙ sym (ap (joined separator text) (take_next xs k x e))

-- the first part, and the parts after it, each with the separator before it
pub joined-flat_map : {A : Type 0} (separator : List ℕ) (text : A → List ℕ) (x : A) (xs : List A)
    → joined separator text (x ∷ xs) ≡ text x ++ flat_map (λ y. separator ++ text y) xs
joined-flat_map separator text x [] = sym (append-nil (text x))
joined-flat_map separator text x (y ∷ xs) =
    append_assoc (text x) separator (joined separator text (y ∷ xs))
    ∙ ap (λ p. text x ++ (separator ++ p)) (joined-flat_map separator text y xs)
    ∙ ap (λ p. text x ++ p) (sym (append_assoc separator (text y) (flat_map (λ z. separator ++ text z) xs)))

-- texts that are the same part by part
pub joined-map : {A B : Type 0} (separator : List ℕ) (text : B → List ℕ) (shown : A → List ℕ) (f : A → B)
    → ((x : A) → text (f x) ≡ shown x) → (xs : List A) → joined separator text (map f xs) ≡ joined separator shown xs
joined-map separator text shown f same [] = refl
joined-map separator text shown f same (x ∷ []) = same x
joined-map separator text shown f same (x ∷ y ∷ xs) = ap (λ p. (p ++ separator) ++ joined separator text (map f (y ∷ xs))) (same x)
    ∙ ap (λ p. (shown x ++ separator) ++ p) (joined-map separator text shown f same (y ∷ xs))
