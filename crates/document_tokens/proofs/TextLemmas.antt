-- The tokens that are held of a text, and the value that it writes.
use Rattle.std.proofs.Common.{◌≡◌, ℕ, ◌<◌, List, [], ◌∷◌, ◌++◌, length, Bool, true, false, ◌&&◌, Option, Some, None, Result, Ok, Err, Vec, Global, map, refl, sym, ap, subst, ◌∙◌, true≢false, arith}
use Rattle.std.specs.Prelude.{IfOk, is_some, option_and_then, option_map}
use Rattle.std.specs.List.{list_all}
use Rattle.std.proofs.lemmas.List.Folds.{list_all-append}
use Rattle.json.specs.Json as json
use Rattle.json.specs.Json.{Json, null, boolean, number, string, array, object, no_items, item, no_members, member, if_last, value}
use Rattle.json.specs.Lex.{tokens}
use Rattle.json.specs.Token.{Token}
use Rattle.json.specs.Tree.{items_tokens, json_tokens, members_tokens}
use Rattle.json.proofs.Nesting.{value-depth}
use Rattle.json.proofs.OnLiterals.{json_on_literals}
use Rattle.json.proofs.Unique.Spelling.{value-json_tokens_back}
use Rattle.document_tokens.specs.HeldTokens.{Held, held_token}
use Rattle.document_tokens.specs.TextTokens.{AreHeldTokens, GivesHeldTokens, is_held_name}
use Rattle.document_tokens.specs.Inner.HeldParts.{AreHeld, AreNoTokens, fits}
use Rattle.document_tokens.specs.Inner.OpenBrackets.{Comes, most_open}
use Rattle.document_tokens.specs.declared.error.JsonTextError.{JsonTextError}
use Rattle.document_tokens.specs.declared.error.JsonTextError.TheVariants as fault
use Rattle.document_tokens.specs.declared.held_token.HeldToken.{HeldToken}
use Rattle.document_tokens.proofs.TokenValues.{value_back}
use Rattle.serde_json.specs.Data.{Data, Members, put}
use Rattle.serde_json.specs.Data as tree
use Rattle.serde_json.specs.Read.{max_depth, number_of, of_items, of_json, of_members, read}

-- ---- Numbers that fit

some_map : {A B : Type 0} (f : A → B) (o : Option A) → is_some (option_map f o) ≡ is_some o
some_map f None = refl
some_map f (Some x) = refl

with_true : (b : Bool) → b ≡ b && true
with_true true = refl
with_true false = refl

-- of two, where the second doesn't depend on the first
both_held : {A B : Type 0} (o : Option A) (next : A → Option B) (b c : Bool) → is_some o ≡ b → ((x : A) → is_some (next x) ≡ c)
    → is_some (option_and_then next o) ≡ b && c
both_held None next b c first second = rw (← first) refl
both_held (Some x) next b c first second = rw (← first) (second x)

mutual
  fits_value : (j : Json) → is_some (of_json j) ≡ list_all fits (json_tokens j)
  fits_value null = refl
  fits_value (boolean b) = refl
  fits_value (number s) = some_map tree.number (number_of s) ∙ with_true (is_some (number_of s))
  fits_value (string s) = refl
  fits_value (array js) = some_map tree.array (of_items js) ∙ fits_items js
  fits_value (object ms) = some_map tree.object (of_members ms tree.no_members) ∙ fits_members ms tree.no_members

  fits_items : (js : json.Items) → is_some (of_items js) ≡ list_all fits (items_tokens js)
  fits_items no_items = refl
  fits_items (item j js) =
      both_held (of_json j) (λ d. option_map (tree.item d) (of_items js)) (list_all fits (json_tokens j)) (list_all fits (items_tokens js))
      (fits_value j) (λ d. some_map (tree.item d) (of_items js) ∙ fits_items js)
      ∙ sym (list_all-append fits (json_tokens j) (items_tokens js))

  fits_members : (ms : json.Members) (found : Members) → is_some (of_members ms found) ≡ list_all fits (members_tokens ms)
  fits_members no_members found = refl
  fits_members (member k j ms) found =
      both_held (of_json j) (λ d. of_members ms (put k d found)) (list_all fits (json_tokens j)) (list_all fits (members_tokens ms))
      (fits_value j) (λ d. fits_members ms (put k d found))
      ∙ sym (list_all-append fits (json_tokens j) (members_tokens ms))

-- ---- The value of a text

none_left : {T : Type 0} (ts : List T) → ts ++ [] ≡ ts
none_left [] = refl
none_left (t ∷ ts) = ap (λ us. t ∷ us) (none_left ts)

held : {A : Type 0} (o : Option A) → is_some o ≡ true → (x : A) × (o ≡ Some x)
held None some = absurd (true≢false (sym some))
held (Some x) some = (x, refl)

not_held : {A : Type 0} (o : Option A) → is_some o ≡ false → o ≡ None
not_held None some = refl
not_held (Some x) some = absurd (true≢false some)

-- the tokens of a value, and what is held of them
there : (names : Option (List (List ℕ))) (text : List ℕ) (ts : List Held) → AreHeld (is_held_name names) (tokens text) ts
    → AreHeldTokens names text ts
there names text ts ((j, after, is, nests, done), fit, holds) =
    let spelled : tokens text ≡ json_tokens j = is ∙ ap (λ us. json_tokens j ++ us) done ∙ none_left (json_tokens j) in
    let found = held (of_json j) (fits_value j ∙ ap (list_all fits) (sym spelled) ∙ fit) in
    let here : tokens text ≡ json_tokens j ++ [] = spelled ∙ sym (none_left (json_tokens j)) in (
      j,
      found.0,
      ap (λ us. option_and_then (λ p. if_last p.0 p.1) (value max_depth us)) here
          ∙ ap (λ o. option_and_then (λ p. if_last p.0 p.1) o) (value_back j max_depth [] nests),
      found.1,
      holds j spelled,
    )

-- the tokens of none
not_there : (text : List ℕ) → AreNoTokens (tokens text) → read text ≡ None
not_there text none = by (value max_depth (tokens text)) refl
  where
    by : (o : Option (Json × List Token)) → value max_depth (tokens text) ≡ o
        → option_and_then of_json (option_and_then (λ p. if_last p.0 p.1) o) ≡ None
    by None is = refl
    by (Some (j, t ∷ ts)) is = refl
    by (Some (j, [])) is = not_held (of_json j) (small (list_all fits (tokens text)) refl)
      where
        spelled : tokens text ≡ json_tokens j ++ []
        spelled = value-json_tokens_back max_depth (tokens text) [] j is

        comes : Comes most_open [] true [] (tokens text)
        comes = (j, [], spelled, value-depth max_depth (tokens text) [] j is, refl)

        small : (b : Bool) → list_all fits (tokens text) ≡ b → is_some (of_json j) ≡ false
        small true fit = absurd (none comes fit)
        small false fit = fits_value j ∙ ap (list_all fits) (sym (spelled ∙ none_left (json_tokens j))) ∙ fit

no_tokens : tokens [] ≡ []
unfolding json_on_literals
no_tokens = refl

some_byte : (bytes : List ℕ) → 0 < length (tokens bytes) → 0 < length bytes
some_byte [] some = subst (λ (ts : List Token). 0 < length ts) no_tokens some
some_byte (byte ∷ bytes) some = omega arith

-- what the reader of a text gives
pub tokens_given : (names : Option (List (List ℕ))) (text : List ℕ) (left : List Token) (r : Result (Vec HeldToken Global) JsonTextError)
    → left ≡ tokens text → IfOk r (λ ts. AreHeld (is_held_name names) left (map held_token ts.items))
    → (r ≡ Err fault.Json → AreNoTokens left) → (r ≡ Err fault.Memory → 0 < length left) → GivesHeldTokens names text r
tokens_given names text left (Ok ts) all are none some =
    there names text (map held_token ts.items)
    (subst (λ (us : List Token). AreHeld (is_held_name names) us (map held_token ts.items)) all are)
tokens_given names text left (Err fault.Json) all are none some = not_there text (subst AreNoTokens all (none refl))
tokens_given names text left (Err fault.Memory) all are none some =
    some_byte text (subst (λ (us : List Token). 0 < length us) all (some refl))
