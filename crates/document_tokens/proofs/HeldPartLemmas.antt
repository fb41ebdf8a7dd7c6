-- What is held of the tokens of a text, one after another.
use Rattle.std.proofs.Common.{◌≡◌, ℕ, suc, ◌-◌, List, [], ◌∷◌, ◌++◌, map, Bool, true, false, refl, sym, ap, ◌∙◌, arith}
use Rattle.std.proofs.lemmas.Bool.{ne_eqb}
use Rattle.std.proofs.lemmas.List.{map-append}
use Rattle.std.specs.Prelude.{◌==◌, if◌then◌else◌}
use Rattle.json.specs.Json as json
use Rattle.json.specs.Token.{Token}
use Rattle.json.specs.Tree.{items_tokens, json_tokens, members_tokens}
use Rattle.document_tokens.specs.Inner.HeldParts.{is_held_after}
use Rattle.document_tokens.specs.HeldTokens.{Held, held_items, held_members, held_of, held_tokens, opened_after}
use Rattle.document_tokens.specs.TextTokens.{json_part, members_part}
use Rattle.document_tokens.proofs.OpenLemmas.{joined}
use Rattle.serde_json.specs.Read.{number_of}

-- a token before others, if it is held
abbrev pub with_held : Bool → Held → List Held → List Held
with_held true t ts = t ∷ ts
with_held false t ts = ts

-- what is held of tokens, by how many arrays and objects are open, and whether what comes is held
abbrev pub part_held : (List ℕ → Bool) → ℕ → Bool → List Held → List Held
part_held test count is_held [] = []
part_held test count is_held (t ∷ ts) =
    with_held (is_held_after test (count == 1) t is_held) t
    (part_held test (opened_after count t) (is_held_after test (count == 1) t is_held) ts)

-- ---- The tokens of a value

mutual
  pub held_value : (j : json.Json) → map held_of (json_tokens j) ≡ held_tokens j
  held_value json.null = refl
  held_value (json.boolean b) = refl
  held_value (json.number s) = refl
  held_value (json.string s) = refl
  held_value (json.array js) = ap (λ ts. Held.begin_array ∷ ts) (held_of_items js)
  held_value (json.object ms) = ap (λ ts. Held.begin_object ∷ ts) (held_of_members ms)

  held_of_items : (js : json.Items) → map held_of (items_tokens js) ≡ held_items js
  held_of_items json.no_items = refl
  held_of_items (json.item j js) =
      map-append held_of (json_tokens j) (items_tokens js) ∙ rw (held_value j, held_of_items js) refl

  held_of_members : (ms : json.Members) → map held_of (members_tokens ms) ≡ held_members ms
  held_of_members json.no_members = refl
  held_of_members (json.member k j ms) =
      ap (λ ts. Held.key k ∷ ts) (map-append held_of (json_tokens j) (members_tokens ms) ∙ rw (held_value j, held_of_members ms) refl)

pub none_after : (ts : List Held) → ts ++ [] ≡ ts
none_after [] = refl
none_after (t ∷ ts) = ap (λ us. t ∷ us) (none_after ts)

-- ---- Inside

-- all of these before others, or none
abbrev pub all_or_none : Bool → List Held → List Held → List Held
all_or_none true one two = one ++ two
all_or_none false one two = two

with_all : (is_held : Bool) (t : Held) (one two : List Held)
    → with_held is_held t (all_or_none is_held one two) ≡ all_or_none is_held (t ∷ one) two
with_all true t one two = refl
with_all false t one two = refl

with_one : (is_held : Bool) (t : Held) (two : List Held) → with_held is_held t two ≡ all_or_none is_held (t ∷ []) two
with_one true t two = refl
with_one false t two = refl

with_both : (is_held : Bool) (one two three : List Held)
    → all_or_none is_held one (all_or_none is_held two three) ≡ all_or_none is_held (one ++ two) three
with_both true one two three = sym (joined one two three)
with_both false one two three = refl

one_less : (n : ℕ) → suc n - 1 ≡ n
one_less n = omega arith

either : (o b : Bool) → if o then b else b ≡ b
either true b = refl
either false b = refl

deeper : (n : ℕ) → (suc (suc n) == 1) ≡ false
deeper n = ne_eqb (suc (suc n)) 1 (λ is. absurd (omega arith))

module _ (test : List ℕ → Bool) where
  -- one token that doesn't tell
  one_inside : (n : ℕ) (b : Bool) (t : Held) (rest : List Held) → is_held_after test (suc n == 1) t b ≡ b → opened_after (suc n) t ≡ suc n
      → part_held test (suc n) b (t ∷ rest) ≡ all_or_none b (t ∷ []) (part_held test (suc n) b rest)
  one_inside n b t rest same stays = rw (same, stays) (with_one b t (part_held test (suc n) b rest))

  mutual
    -- a value in an array or an object is held as what stands before it
    value_inside : (n : ℕ) (b : Bool) (j : json.Json) (rest : List Held)
        → part_held test (suc n) b (held_tokens j ++ rest) ≡ all_or_none b (held_tokens j) (part_held test (suc n) b rest)
    value_inside n b json.null rest = one_inside n b Held.null rest (either (suc n == 1) b) refl
    value_inside n b (json.boolean t) rest = one_inside n b (Held.boolean t) rest (either (suc n == 1) b) refl
    value_inside n b (json.number s) rest = one_inside n b (Held.number (number_of s)) rest (either (suc n == 1) b) refl
    value_inside n b (json.string s) rest = one_inside n b (Held.string s) rest (either (suc n == 1) b) refl
    value_inside n b (json.array js) rest =
        rw (either (suc n == 1) b, items_inside (suc n) b js rest)
        (with_all b Held.begin_array (held_items js) (part_held test (suc n) b rest))
    value_inside n b (json.object ms) rest =
        rw (either (suc n == 1) b, members_inside n b ms rest)
        (with_all b Held.begin_object (held_members ms) (part_held test (suc n) b rest))

    items_inside : (n : ℕ) (b : Bool) (js : json.Items) (rest : List Held)
        → part_held test (suc n) b (held_items js ++ rest) ≡ all_or_none b (held_items js) (part_held test n b rest)
    items_inside n b json.no_items rest =
        rw (either (suc n == 1) b, one_less n) (with_one b Held.end_array (part_held test n b rest))
    items_inside n b (json.item j js) rest =
        ap (part_held test (suc n) b) (joined (held_tokens j) (held_items js) rest)
        ∙ value_inside n b j (held_items js ++ rest)
        ∙ ap (all_or_none b (held_tokens j)) (items_inside n b js rest)
        ∙ with_both b (held_tokens j) (held_items js) (part_held test n b rest)

    members_inside : (n : ℕ) (b : Bool) (ms : json.Members) (rest : List Held)
        → part_held test (suc (suc n)) b (held_members ms ++ rest) ≡ all_or_none b (held_members ms) (part_held test (suc n) b rest)
    members_inside n b json.no_members rest =
        rw (deeper n, one_less (suc n)) (with_one b Held.end_object (part_held test (suc n) b rest))
    members_inside n b (json.member k j ms) rest =
        rw (deeper n)
        (ap (λ ts. with_held b (Held.key k) (part_held test (suc (suc n)) b ts)) (joined (held_tokens j) (held_members ms) rest)
        ∙ ap (with_held b (Held.key k)) (value_inside (suc n) b j (held_members ms ++ rest)
        ∙ ap (all_or_none b (held_tokens j)) (members_inside n b ms rest)
        ∙ with_both b (held_tokens j) (held_members ms) (part_held test (suc n) b rest))
        ∙ with_all b (Held.key k) (held_tokens j ++ held_members ms) (part_held test (suc n) b rest))

  -- ---- Outermost

  -- a member is held if its key passes
  by_key : (b : Bool) (k : List ℕ) (j : json.Json) (ms : json.Members) (rest : List Held)
      → with_held b (Held.key k) (all_or_none b (held_tokens j) (held_members ms ++ rest))
      ≡ held_members (if b then json.member k j ms else ms) ++ rest
  by_key true k j ms rest = ap (λ ts. Held.key k ∷ ts) (sym (joined (held_tokens j) (held_members ms) rest))
  by_key false k j ms rest = refl

  members_outermost : (b : Bool) (ms : json.Members) (rest : List Held)
      → part_held test 1 b (held_members ms ++ rest) ≡ held_members (members_part test ms) ++ part_held test 0 true rest
  members_outermost b json.no_members rest = refl
  members_outermost b (json.member k j ms) rest =
      ap (λ ts. with_held (test k) (Held.key k) (part_held test 1 (test k) ts)) (joined (held_tokens j) (held_members ms) rest)
      ∙ ap (with_held (test k) (Held.key k)) (value_inside 0 (test k) j (held_members ms ++ rest)
      ∙ ap (all_or_none (test k) (held_tokens j)) (members_outermost (test k) ms rest))
      ∙ by_key (test k) k j (members_part test ms) (part_held test 0 true rest)

  -- of a value, and what comes after it
  of_value : (j : json.Json) (rest : List Held)
      → part_held test 0 true (held_tokens j ++ rest) ≡ held_tokens (json_part test j) ++ part_held test 0 true rest
  of_value json.null rest = refl
  of_value (json.boolean t) rest = refl
  of_value (json.number s) rest = refl
  of_value (json.string s) rest = refl
  of_value (json.array js) rest = ap (λ ts. Held.begin_array ∷ ts) (items_inside 0 true js rest)
  of_value (json.object ms) rest = ap (λ ts. Held.begin_object ∷ ts) (members_outermost true ms rest)

  -- of the tokens of a value those of its part are held
  pub part_of_value : (j : json.Json) → part_held test 0 true (map held_of (json_tokens j)) ≡ held_tokens (json_part test j)
  part_of_value j =
      ap (part_held test 0 true) (held_value j ∙ sym (none_after (held_tokens j)))
      ∙ of_value j [] ∙ none_after (held_tokens (json_part test j))

  -- nothing is left
  pub all_held : (initial reader : List Token) (so_far : List Held) (n : ℕ) (b : Bool) → reader ≡ []
      → part_held test 0 true (map held_of initial) ≡ so_far ++ part_held test n b (map held_of reader)
      → (value : json.Json) → initial ≡ json_tokens value → so_far ≡ held_tokens (json_part test value)
  all_held initial reader so_far n b none held value is =
      sym (held ∙ ap (λ us. so_far ++ part_held test n b (map held_of us)) none ∙ none_after so_far)
      ∙ ap (λ us. part_held test 0 true (map held_of us)) is ∙ part_of_value value
