-- Texts and rules that are kept.
use Rattle.std.proofs.Common.{◌≡◌, ◌∷◌, ◌++◌, ◌-◌, ◌≤◌, ℕ, List, [], Option, Some, None, All, Contains, IfSome, drop, length, map}
use Rattle.std.proofs.Common.{arith, sym, ap, subst, ◌∙◌}
use Rattle.std.proofs.lemmas.List.{drop-append-le, drop-map, length-map, map-append}
use Rattle.std.proofs.lemmas.List.Elements.{All-drop, All-get_or, All-push, Contains-append_left, Contains-append_right}

-- what holds of all holds of one of them
pub of_one : {X : Type 0} (P : X → Type 0) (xs : List X) (x : X) → All P xs → Contains xs x → P x
of_one P xs x all among = subst P among.2 (All-get_or P xs among.0 x among.1 all)

-- what holds where another holds
pub if_some : {A : Type 0} {P Q : A → Type 0} (found : Option A) → ((x : A) → P x → Q x) → IfSome found P → IfSome found Q
if_some None gives h = tt
if_some (Some x) gives h = gives x h

module _ {X Y : Type 0} (f : X → Y) where
  -- what is among the first is among all
  pub among_first : (xs ys all : List X) (y : Y) → xs ++ ys ≡ all → Contains (map f xs) y → Contains (map f all) y
  among_first xs ys all y is h =
      subst (λ (l : List X). Contains (map f l) y) is
      (subst (λ (l : List Y). Contains l y) (sym (map-append f xs ys)) (Contains-append_left (map f xs) (map f ys) y h))

  -- what is among the last is among all
  pub among_last : (xs ys all : List X) (y : Y) → xs ++ ys ≡ all → Contains (map f ys) y → Contains (map f all) y
  among_last xs ys all y is h =
      subst (λ (l : List X). Contains (map f l) y) is
      (subst (λ (l : List Y). Contains l y) (sym (map-append f xs ys)) (Contains-append_right (map f xs) (map f ys) y h))

  -- the last ones are kept, and one more
  pub kept_last : (most : ℕ) (xs : List X) (x : X)
      → map f (drop (length xs - most) xs ++ x ∷ []) ≡ drop (length (map f xs) - most) (map f xs ++ f x ∷ [])
  kept_last most xs x =
      let n = length xs - most in
      let same : length (map f xs) ≡ length xs = length-map xs f in
      let within : n ≤ length (map f xs) = omega (arith, same) in
      map-append f (drop n xs) (x ∷ [])
      ∙ ap (λ l. l ++ f x ∷ []) (sym (drop-map f n xs))
      ∙ sym (drop-append-le n (map f xs) (f x ∷ []) within)
      ∙ ap (λ k. drop (k - most) (map f xs ++ f x ∷ [])) (sym same)

  -- what holds of all holds of the last ones
  pub all_last : (P : Y → Type 0) (n : ℕ) (xs : List X) → All P (map f xs) → All P (map f (drop n xs))
  all_last P n xs all = subst (λ (l : List Y). All P l) (drop-map f n xs) (All-drop P n (map f xs) all)

  -- and of one more of which it holds
  pub all_more : (P : Y → Type 0) (xs : List X) (x : X) → All P (map f xs) → P (f x) → All P (map f (xs ++ x ∷ []))
  all_more P xs x all one =
      subst (λ (l : List Y). All P l) (sym (map-append f xs (x ∷ []))) (All-push P (map f xs) (f x) all one)
