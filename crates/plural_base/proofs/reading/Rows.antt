-- Rows of a map: their keys, and what is found.
use Rattle.std.proofs.Common.{◌≡◌, ℕ, List, [], ◌∷◌, ◌++◌, map, cond, Bool, true, false, Option, Some, option_map, String, Global}
use Rattle.std.proofs.Common.{Less, string_bytes, string_cmp, nat_cmp, bytes_eq, refl, ap}
use Rattle.std.specs.Cmp.Lexicographic.{slice_cmp}
use Rattle.std.specs.List.{AllByRecursion}
use Rattle.std.specs.List.Sorted.{IsStrictlySortedBy}
use Rattle.std.specs.Map.{keys_of}
use Rattle.plural_base.specs.DocumentJson.{Rows, found}
use Rattle.plural_base.specs.Inner.JsonSteps.{Ascend, rows_by}

-- ---- A key above those before it

-- the keys of entries as bytes
abbrev pub key_bytes : {A : Type 0} → List (String Global × A) → List (List ℕ)
key_bytes es = map (λ e. string_bytes e.0) es

-- a key that is pushed comes after the others
keys_of-push : {A : Type 0} (rows : Rows A) (k : List ℕ) (v : A) (more : List (List ℕ))
    → keys_of (rows ++ (k, v) ∷ []) ++ more ≡ keys_of rows ++ k ∷ more
keys_of-push [] k v more = refl
keys_of-push (row ∷ rows) k v more = ap (λ rest. row.0 ∷ rest) (keys_of-push rows k v more)

-- and the keys still ascend
pub ascend_push : {A : Type 0} (rows : Rows A) (k : List ℕ) (v : A) (more : List (List ℕ)) → Ascend (keys_of rows ++ k ∷ more)
    → Ascend (keys_of (rows ++ (k, v) ∷ []) ++ more)
ascend_push rows k v more h = rw (keys_of-push rows k v more) h

-- what holds of a list holds of it up to one of its items
all_so_far : (P : List ℕ → Type 0) (keys : List (List ℕ)) (k : List ℕ) (more : List (List ℕ)) → AllByRecursion P (keys ++ k ∷ more)
    → AllByRecursion P (keys ++ k ∷ [])
all_so_far P [] k more h = (h.0, tt)
all_so_far P (x ∷ keys) k more h = (h.0, all_so_far P keys k more h.1)

-- keys that ascend do so up to one of them
pub ascend_so_far : (keys : List (List ℕ)) (k : List ℕ) (more : List (List ℕ)) → Ascend (keys ++ k ∷ more) → Ascend (keys ++ k ∷ [])
unfolding IsStrictlySortedBy
ascend_so_far [] k more h = (tt, tt)
ascend_so_far (x ∷ keys) k more h =
    (all_so_far (λ y. slice_cmp nat_cmp x y ≡ Less) keys k more h.0, ascend_so_far keys k more h.1)

-- no key ascends
pub ascend_none : Ascend []
unfolding IsStrictlySortedBy
ascend_none = tt

-- nor does one alone go down
pub ascend_alone : (k : List ℕ) → Ascend (k ∷ [])
unfolding IsStrictlySortedBy
ascend_alone k = (tt, tt)

-- keys that are above a text are above its bytes
all_bytes : {A : Type 0} (k : String Global) (es : List (String Global × A)) → AllByRecursion (λ y. string_cmp k y ≡ Less) (keys_of es)
    → AllByRecursion (λ y. slice_cmp nat_cmp (string_bytes k) y ≡ Less) (key_bytes es)
all_bytes k [] h = tt
all_bytes k (e ∷ es) h = (h.0, all_bytes k es h.1)

-- the keys of a map ascend as bytes
pub ascend_bytes : {A : Type 0} (es : List (String Global × A)) → IsStrictlySortedBy string_cmp (keys_of es) → Ascend (key_bytes es)
unfolding IsStrictlySortedBy
ascend_bytes [] h = tt
ascend_bytes (e ∷ es) h = (all_bytes e.0 es h.0, ascend_bytes es h.1)

-- ---- Rows as they are seen

module _ {V A : Type 0} (seen : V → A) where
  -- their keys are the same
  pub keys_of-rows_by : (rows : Rows V) → keys_of (rows_by seen rows) ≡ keys_of rows
  keys_of-rows_by [] = refl
  keys_of-rows_by (row ∷ rows) = ap (λ keys. row.0 ∷ keys) (keys_of-rows_by rows)

  -- a choice of the first row or of what another gives is seen as the choice of what is seen
  found_or : (b : Bool) (x : V) (rest : Option V) (rest' : Option A) → rest' ≡ option_map seen rest
      → cond b (Some (seen x)) rest' ≡ option_map seen (cond b (Some x) rest)
  found_or true x rest rest' h = refl
  found_or false x rest rest' h = h

  -- what is found is what is seen of what is found
  pub found-rows_by : (locale : List ℕ) (rows : Rows V) → found locale (rows_by seen rows) ≡ option_map seen (found locale rows)
  found-rows_by locale [] = refl
  found-rows_by locale (row ∷ rows) = found_or (bytes_eq locale row.0) row.1 _ _ (found-rows_by locale rows)
