-- Texts that are written one after another.
use Rattle.std.proofs.Common.{◌+◌, ◌<◌, length, take, get_or, ◌≡◌, ℕ, zero, suc, List, [], ◌∷◌, ◌++◌, refl, sym, subst, ◌∙◌, ap}
use Rattle.std.proofs.Common.{append_assoc, arith, ◌==◌, if◌then◌else◌}
use Rattle.std.proofs.lemmas.Bool.{ne_eqb}
use Rattle.std.proofs.lemmas.List.{append-nil, take_more}
use Rattle.std.specs.Fmt.{WritesInCalls}
use Rattle.std.specs.List.{concat, FoldsTo}
use Rattle.plural_reference.specs.Serializer.{joined}

module _ {W : Type 0} (took : W → List ℕ → W → Type 0) where
  -- calls after calls
  calls_append : (w : W) (xs : List (List ℕ)) (v : W) (ys : List (List ℕ)) (u : W)
      → FoldsTo took w xs v → FoldsTo took v ys u → FoldsTo took w (xs ++ ys) u
  calls_append w [] v ys u p q = subst (λ (x : W). FoldsTo took x ys u) (sym p) q
  calls_append w (x ∷ xs) v ys u p q = (p.0, p.1, calls_append p.0 xs v ys u p.2 q)

  -- texts after texts
  concat_append : (xs ys : List (List ℕ)) → concat (xs ++ ys) ≡ concat xs ++ concat ys
  concat_append [] ys = refl
  concat_append (x ∷ xs) ys = ap (λ l. x ++ l) (concat_append xs ys) ∙ sym (append_assoc x (concat xs) (concat ys))

  -- no call writes nothing
  pub no_call : (w : W) → WritesInCalls took w [] w
  no_call w = record { parts = []; calls = refl; whole = refl }

  -- one call writes its text
  pub one_call : (w : W) (bs : List ℕ) (v : W) → took w bs v → WritesInCalls took w bs v
  one_call w bs v t = record { parts = bs ∷ []; calls = (v, t, refl); whole = append-nil bs }

  -- what is written after a text follows it
  pub then_writes : (w : W) (a : List ℕ) (v : W) (b : List ℕ) (u : W)
      → WritesInCalls took w a v → WritesInCalls took v b u → WritesInCalls took w (a ++ b) u
  then_writes w a v b u p q = record {
    parts = p.parts ++ q.parts;
    calls = calls_append w p.parts v q.parts u p.calls q.calls;
    whole = concat_append p.parts q.parts ∙ (λ i. p.whole i ++ q.whole i);
  }

-- what is between the parts so far and the next one
abbrev between : {A : Type 0} → List ℕ → List A → List ℕ
between separator [] = []
between separator (x ∷ xs) = separator

-- one more part at the end
joined-push : {A : Type 0} (separator : List ℕ) (text : A → List ℕ) (xs : List A) (y : A)
    → joined separator text (xs ++ y ∷ []) ≡ joined separator text xs ++ (between separator xs ++ text y)
joined-push separator text [] y = refl
joined-push separator text (x ∷ []) y = append_assoc (text x) separator (text y)
joined-push separator text (x ∷ z ∷ zs) y =
    ap (λ l. (text x ++ separator) ++ l) (joined-push separator text (z ∷ zs) y)
    ∙ sym (append_assoc (text x ++ separator) (joined separator text (z ∷ zs)) (separator ++ text y))

-- before the part at an index is the separator, but before the first one nothing
before_part : {A : Type 0} (separator : List ℕ) (xs : List A) (i : ℕ) → i < length xs
    → (if i == 0 then [] else separator) ≡ between separator (take i xs)
before_part separator xs zero lt = refl
before_part separator [] (suc i) lt = absurd (omega (arith, lt))
before_part separator (x ∷ xs) (suc i) lt = rw (ne_eqb (suc i) 0 (λ e. omega (arith, e))) refl

-- a turn of the loop that writes the parts
pub more_written : {W A : Type 0} (took : W → List ℕ → W → Type 0) (separator : List ℕ) (text : A → List ℕ) (xs : List A) (i : ℕ)
    (y : A) (w v u z : W)
    → i < length xs → y ≡ get_or xs i y → WritesInCalls took w (joined separator text (take i xs)) v
    → WritesInCalls took v (if i == 0 then [] else separator) u → WritesInCalls took u (text y) z
    → WritesInCalls took w (joined separator text (take (i + 1) xs)) z
more_written {A = A} took separator text xs i y w v u z lt here h k l =
    let part = get_or xs i y in
    let turn : joined separator text (take (i + 1) xs)
    ≡ joined separator text (take i xs) ++ ((if i == 0 then [] else separator) ++ text part) =
    ap (joined separator text) (take_more xs i y lt) ∙ joined-push separator text (take i xs) part
    ∙ ap (λ b. joined separator text (take i xs) ++ (b ++ text part)) (sym (before_part separator xs i lt)) in
    subst (λ bs. WritesInCalls took w bs z) (sym turn)
    (then_writes took w _ v _ z h (then_writes took v _ u _ z k (subst (λ (e : A). WritesInCalls took u (text e) z) here l)))
