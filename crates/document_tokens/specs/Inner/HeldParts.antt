-- Not a definition of the subject: which tokens of a JSON text are held.
use Rattle.std.specs.Prelude.{◌≡◌, ℕ, List, [], ◌∷◌, Bool, true, false, is_some, if◌then◌else◌}
use Rattle.std.specs.List.{list_all}
use Rattle.json.specs.Json as json
use Rattle.json.specs.Token.{Token}
use Rattle.json.specs.Tree.{json_tokens}
use Rattle.document_tokens.specs.HeldTokens.{Held, held_of, held_tokens}
use Rattle.document_tokens.specs.TextTokens.{json_part}
use Rattle.document_tokens.specs.Inner.OpenBrackets.{Comes, IsAfter, PassesToken, most_open}
use Rattle.document_tokens.specs.declared.token_place.TokenPlace.{TokenPlace}
use Rattle.serde_json.specs.Read.{number_of}

-- a token is held, and what comes after it up to the next such one: in the outermost object that goes by its keys
abbrev pub is_held_there : (List ℕ → Bool) → Held → Bool → Bool
is_held_there test Held.begin_object is_held = is_held
is_held_there test Held.end_object is_held = true
is_held_there test Held.begin_array is_held = is_held
is_held_there test Held.end_array is_held = is_held
is_held_there test (Held.key name) is_held = test name
is_held_there test (Held.string text) is_held = is_held
is_held_there test (Held.number n) is_held = is_held
is_held_there test (Held.boolean truth) is_held = is_held
is_held_there test Held.null is_held = is_held

abbrev pub is_held_after : (List ℕ → Bool) → Bool → Held → Bool → Bool
is_held_after test is_outermost token is_held = if is_outermost then is_held_there test token is_held else is_held

-- ---- Texts

-- it is no number that is too large, and no fault
abbrev pub fits : Token → Bool
fits Token.begin_object = true
fits Token.end_object = true
fits Token.begin_array = true
fits Token.end_array = true
fits (Token.key name) = true
fits (Token.string text) = true
fits (Token.number text) = is_some (number_of text)
fits (Token.boolean truth) = true
fits Token.null = true
fits Token.bad = false

-- the token comes after the old place and fits, what comes after it comes after the new one, and this is held of it
abbrev pub IsHeldAt : TokenPlace → Token → TokenPlace → Held → Type 0
IsHeldAt old token new held = PassesToken old token new × (fits token ≡ true) × (held ≡ held_of token)

-- it doesn't come after the place, or doesn't fit
abbrev pub IsUnfit : TokenPlace → Token → Type 0
IsUnfit place token = (tokens : List Token) → IsAfter place (token ∷ tokens) → fits token ≡ true → ⊥

-- the tokens of a text are those of one value, as serde_json reads it, and these are held of them
abbrev pub AreHeld : (List ℕ → Bool) → List Token → List Held → Type 0
AreHeld test of_text held =
    Comes most_open [] true [] of_text × (list_all fits of_text ≡ true)
    × ((value : json.Json) → of_text ≡ json_tokens value → held ≡ held_tokens (json_part test value))

-- they are those of none
abbrev pub AreNoTokens : List Token → Type 0
AreNoTokens of_text = Comes most_open [] true [] of_text → list_all fits of_text ≡ true → ⊥
