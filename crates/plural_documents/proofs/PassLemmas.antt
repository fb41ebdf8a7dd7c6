-- How a value is passed, by the count of what is open.
use Rattle.std.proofs.Common.{◌≡◌, ℕ, zero, suc, ◌-◌, ◌<◌, List, [], ◌∷◌, ◌++◌, refl, sym, ap, ◌∙◌, append_assoc, arith}
use Rattle.json.specs.Json as json
use Rattle.document_tokens.specs.HeldTokens.{Held, held_items, held_members, held_tokens, opened_after}

-- what is left when nothing is open any more
abbrev passed : ℕ → List Held → List Held
passed zero ts = ts
passed (suc count) [] = []
passed (suc count) (t ∷ ts) = passed (opened_after (suc count) t) ts

one_less : (n : ℕ) → suc n - 1 ≡ n
one_less n = omega arith

mutual
  value_passed : (n : ℕ) (j : json.Json) (rest : List Held) → passed (suc n) (held_tokens j ++ rest) ≡ passed (suc n) rest
  value_passed n json.null rest = refl
  value_passed n (json.boolean b) rest = refl
  value_passed n (json.number s) rest = refl
  value_passed n (json.string s) rest = refl
  value_passed n (json.array js) rest = items_passed (suc n) js rest
  value_passed n (json.object ms) rest = members_passed (suc n) ms rest

  items_passed : (n : ℕ) (js : json.Items) (rest : List Held) → passed (suc n) (held_items js ++ rest) ≡ passed n rest
  items_passed n json.no_items rest = ap (λ k. passed k rest) (one_less n)
  items_passed n (json.item j js) rest =
      ap (passed (suc n)) (append_assoc (held_tokens j) (held_items js) rest) ∙ value_passed n j (held_items js ++ rest)
      ∙ items_passed n js rest

  members_passed : (n : ℕ) (ms : json.Members) (rest : List Held) → passed (suc n) (held_members ms ++ rest) ≡ passed n rest
  members_passed n json.no_members rest = ap (λ k. passed k rest) (one_less n)
  members_passed n (json.member k j ms) rest =
      ap (passed (suc n)) (append_assoc (held_tokens j) (held_members ms) rest) ∙ value_passed n j (held_members ms ++ rest)
      ∙ members_passed n ms rest

-- what is left after the first token, and what it opens
abbrev after_first : List Held → List Held
after_first [] = []
after_first (t ∷ ts) = passed (opened_after 0 t) ts

first_passed : (j : json.Json) (rest : List Held) → after_first (held_tokens j ++ rest) ≡ rest
first_passed json.null rest = refl
first_passed (json.boolean b) rest = refl
first_passed (json.number s) rest = refl
first_passed (json.string s) rest = refl
first_passed (json.array js) rest = items_passed 0 js rest
first_passed (json.object ms) rest = members_passed 0 ms rest

-- ---- What is left after a value

-- when nothing is open any more, these are left
abbrev pub Leaves : List Held → ℕ → List Held → Type 0
Leaves rest count ts = (left : List Held) × (passed count ts ≡ left) × (left ≡ rest)

pub leaves_first : (value : json.Json) (rest : List Held) (t : Held) (ts : List Held) → t ∷ ts ≡ held_tokens value ++ rest
    → Leaves rest (opened_after 0 t) ts
leaves_first value rest t ts is = (rest, ap after_first is ∙ first_passed value rest, refl)

passed_by_one : (count : ℕ) (t : Held) (ts : List Held) → 0 < count → passed count (t ∷ ts) ≡ passed (opened_after count t) ts
passed_by_one zero t ts some = absurd (omega arith)
passed_by_one (suc count) t ts some = refl

-- after one token more
pub leaves_on : (rest : List Held) (count : ℕ) (t : Held) (ts : List Held) → 0 < count → Leaves rest count (t ∷ ts)
    → Leaves rest (opened_after count t) ts
leaves_on rest count t ts some (left, is, same) = (left, sym (passed_by_one count t ts some) ∙ is, same)

-- nothing is open
pub is_left : (rest ts : List Held) → Leaves rest 0 ts → ts ≡ rest
is_left rest ts (left, is, same) = is ∙ same

none_to_pass : (count : ℕ) → passed count [] ≡ []
none_to_pass zero = refl
none_to_pass (suc count) = refl

-- no token is left
pub none_is_left : (rest : List Held) (count : ℕ) → Leaves rest count [] → [] ≡ rest
none_is_left rest count (left, is, same) = sym (none_to_pass count) ∙ is ∙ same
