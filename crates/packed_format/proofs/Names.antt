-- Names that are found one after another are each there once.
use Rattle.std.proofs.Common.{◌≡◌, ◌∙◌, ℕ, List, [], ◌∷◌, ◌++◌, refl, sym, ap, subst, append_assoc, append-nil, Bool, true, false, bytes_eq}
use Rattle.std.proofs.Common.{if◌then◌else◌}
use Rattle.std.proofs.lemmas.Bool.Decides.{same_from_decides}
use Rattle.std.proofs.lemmas.Slice.Eq.{bytes_eq-Decides}
use Rattle.message_pattern.specs.PatternParts.{Part}
use Rattle.packed_format.specs.PlacedArguments.{names_in, names_of, once, used_in, without}
use Rattle.packed_format.specs.Inner.FoundNames.{is_name_among, with_name, with_names}

pub with_names-append : (found ns ms : List (List ℕ)) → with_names found (ns ++ ms) ≡ with_names (with_names found ns) ms
with_names-append found [] ms = refl
with_names-append found (n ∷ ns) ms = with_names-append (with_name found n) ns ms

-- the names of the first part, and those of the rest
pub behind_one : (found : List (List ℕ)) (p : Part) (ps : List Part) → with_names found (used_in (p ∷ ps))
    ≡ with_names (with_names found (names_in p.piece)) (used_in ps)
behind_one found p ps = with_names-append found (names_in p.piece) (used_in ps)

-- ---- one more

swapped : (a b : List ℕ) → bytes_eq a b ≡ bytes_eq b a
swapped a b =
    same_from_decides (bytes_eq a b) (bytes_eq b a) (bytes_eq-Decides a b)
    (λ t. sym ((bytes_eq-Decides b a).0 t), λ e. (bytes_eq-Decides b a).1 (sym e))

kept : (found : List (List ℕ)) (n : List ℕ) → is_name_among n found ≡ true → with_name found n ≡ found
kept found n h = rw h refl

longer : (found : List (List ℕ)) (n : List ℕ) → is_name_among n found ≡ false → with_name found n ≡ found ++ n ∷ []
longer found n h = rw h refl

has_name-without : (x n : List ℕ) (l : List (List ℕ)) → bytes_eq x n ≡ false → is_name_among n (without x l) ≡ is_name_among n l
has_name-without x n [] h = refl
has_name-without x n (y ∷ ys) h = this (bytes_eq y x) refl (has_name-without x n ys h)
  where
    this : (b : Bool) → bytes_eq y x ≡ b → is_name_among n (without x ys) ≡ is_name_among n ys → is_name_among n (without x (y ∷ ys)) ≡ is_name_among n (y ∷ ys)
    this true is more =
        let same : y ≡ x = (bytes_eq-Decides y x).0 is in
        let other : bytes_eq y n ≡ false = subst (λ (z : List ℕ). bytes_eq z n ≡ false) (sym same) h in
        rw (is, other) more
    this false is more = rw (is, more) refl

without-append : (x n : List ℕ) (l : List (List ℕ)) → without x (l ++ n ∷ []) ≡ without x l ++ (if bytes_eq n x then [] else n ∷ [])
without-append x n [] = refl
without-append x n (y ∷ ys) = this (bytes_eq y x) refl (without-append x n ys)
  where
    this : (b : Bool) → bytes_eq y x ≡ b → without x (ys ++ n ∷ []) ≡ without x ys ++ (if bytes_eq n x then [] else n ∷ [])
        → without x ((y ∷ ys) ++ n ∷ []) ≡ without x (y ∷ ys) ++ (if bytes_eq n x then [] else n ∷ [])
    this true is more = rw is more
    this false is more = rw is (ap (λ (l : List (List ℕ)). y ∷ l) more)

once-append : (xs : List (List ℕ)) (n : List ℕ) → once (xs ++ n ∷ []) ≡ with_name (once xs) n
once-append [] n = refl
once-append (x ∷ xs) n = this (is_name_among n (once xs)) (bytes_eq x n) refl refl (once-append xs n)
  where
    behind : (found : List (List ℕ)) → once (xs ++ n ∷ []) ≡ found → once ((x ∷ xs) ++ n ∷ []) ≡ x ∷ without x found
    behind found e = ap (λ (l : List (List ℕ)). x ∷ without x l) e

    this : (t b : Bool) → is_name_among n (once xs) ≡ t → bytes_eq x n ≡ b → once (xs ++ n ∷ []) ≡ with_name (once xs) n
        → once ((x ∷ xs) ++ n ∷ []) ≡ with_name (once (x ∷ xs)) n
    this true true has same more = behind (once xs) (more ∙ kept (once xs) n has) ∙ sym (kept (once (x ∷ xs)) n (rw same refl))
    this true false has same more =
        behind (once xs) (more ∙ kept (once xs) n has) ∙ sym (kept (once (x ∷ xs)) n (rw same (has_name-without x n (once xs) same ∙ has)))
    this false true has same more =
        let twice : (if bytes_eq n x then [] else n ∷ []) ≡ [] = rw (swapped n x ∙ same) refl in
        behind (once xs ++ n ∷ []) (more ∙ longer (once xs) n has)
        ∙ (ap (λ (l : List (List ℕ)). x ∷ l)
        (without-append x n (once xs) ∙ (ap (λ (l : List (List ℕ)). without x (once xs) ++ l) twice ∙ append-nil (without x (once xs))))
        ∙ sym (kept (once (x ∷ xs)) n (rw same refl)))
    this false false has same more =
        let once_more : (if bytes_eq n x then [] else n ∷ []) ≡ n ∷ [] = rw (swapped n x ∙ same) refl in
        behind (once xs ++ n ∷ []) (more ∙ longer (once xs) n has)
        ∙ (ap (λ (l : List (List ℕ)). x ∷ l) (without-append x n (once xs) ∙ ap (λ (l : List (List ℕ)). without x (once xs) ++ l) once_more)
        ∙ sym (longer (once (x ∷ xs)) n (rw same (has_name-without x n (once xs) same ∙ has))))

-- all of them
with_names-once : (xs ys : List (List ℕ)) → with_names (once xs) ys ≡ once (xs ++ ys)
with_names-once xs [] = ap once (sym (append-nil xs))
with_names-once xs (y ∷ ys) =
    ap (λ (l : List (List ℕ)). with_names l ys) (sym (once-append xs y))
    ∙ (with_names-once (xs ++ y ∷ []) ys ∙ ap once (append_assoc xs (y ∷ []) ys))

pub all_once : (ps : List Part) → with_names [] (used_in ps) ≡ names_of ps
all_once ps = with_names-once [] (used_in ps)
