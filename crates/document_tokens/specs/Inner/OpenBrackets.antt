-- Not a definition of the subject: what is open at a place of a JSON text, and which tokens may come
-- there.
use Rattle.std.specs.Prelude.{◌≡◌, ℕ, suc, ◌-◌, ◌≤◌, List, [], ◌∷◌, ◌++◌, length, Bool, true, false}
use Rattle.std.specs.Bool.{MatchBool}
use Rattle.json.specs.Json.{Json, Items, Members}
use Rattle.json.specs.Token.{Token}
use Rattle.json.specs.Tree.{depth, items_depth, items_tokens, json_tokens, members_depth, members_tokens}
use Rattle.document_tokens.specs.HeldTokens.{held_of, opened_after}
use Rattle.document_tokens.specs.Inner.OpenKinds.{is_innermost_kind}
use Rattle.document_tokens.specs.declared.token_place.TokenPlace.{TokenPlace}

-- ---- What completes it

-- after these tokens, all that is open has ended; arrays and objects nest to a depth
abbrev pub CompletesOpen : ℕ → List Token → List Bool → List Token → Type 0
CompletesOpen most rest [] tokens = tokens ≡ rest
CompletesOpen most rest (true ∷ opened) tokens =
    (members : Members) × (after : List Token) × (tokens ≡ members_tokens members ++ after)
    × (members_depth members ≤ most - suc (length opened)) × CompletesOpen most rest opened after
CompletesOpen most rest (false ∷ opened) tokens =
    (items : Items) × (after : List Token) × (tokens ≡ items_tokens items ++ after)
    × (items_depth items ≤ most - suc (length opened)) × CompletesOpen most rest opened after

-- the same, after a value if one is due
abbrev pub Comes : ℕ → List Token → Bool → List Bool → List Token → Type 0
Comes most rest true opened tokens =
    (value : Json) × (after : List Token) × (tokens ≡ json_tokens value ++ after) × (depth value ≤ most - length opened)
    × CompletesOpen most rest opened after
Comes most rest false opened tokens = CompletesOpen most rest opened tokens

-- ---- A place

-- as deep as serde_json reads
abbrev pub most_open : ℕ
most_open = 127

-- these are the tokens after a place
abbrev pub IsAfter : TokenPlace → List Token → Type 0
IsAfter place tokens = Comes most_open [] place.is_due place.open tokens

-- the token comes after the old place, and what comes after it comes after the new one
abbrev pub Goes : TokenPlace → Token → TokenPlace → Type 0
Goes old token new =
    (tokens : List Token) → (IsAfter old (token ∷ tokens) → IsAfter new tokens) × (IsAfter new tokens → IsAfter old (token ∷ tokens))

-- and as many are open there as the token leaves open
abbrev pub PassesToken : TokenPlace → Token → TokenPlace → Type 0
PassesToken old token new = Goes old token new × (length new.«open» ≡ opened_after (length old.«open») (held_of token))

-- the token doesn't come after the place
abbrev pub IsRefusedToken : TokenPlace → Token → Type 0
IsRefusedToken place token = (tokens : List Token) → IsAfter place (token ∷ tokens) → ⊥

-- ---- Kinds of tokens

-- it goes on in an object, if this is true, or in an array
abbrev pub goes_on : Bool → Bool → List Bool → Bool
goes_on is_object true opened = false
goes_on is_object false opened = is_innermost_kind is_object opened

-- a value may come
abbrev pub may_have_value : Bool → List Bool → Bool
may_have_value true opened = true
may_have_value false opened = goes_on false false opened

-- the tokens with which an object or an array begins and ends
abbrev pub beginning : Bool → Token
beginning true = Token.begin_object
beginning false = Token.begin_array

abbrev pub ending : Bool → Token
ending true = Token.end_object
ending false = Token.end_array

-- a text, a number, a truth value or `null`
abbrev pub is_scalar : Token → Bool
is_scalar Token.begin_object = false
is_scalar Token.end_object = false
is_scalar Token.begin_array = false
is_scalar Token.end_array = false
is_scalar (Token.key name) = false
is_scalar (Token.string text) = true
is_scalar (Token.number text) = true
is_scalar (Token.boolean truth) = true
is_scalar Token.null = true
is_scalar Token.bad = false

-- past any of these, if it may come
abbrev pub GoesByScalar : Bool → TokenPlace → TokenPlace → Type 0
GoesByScalar passed old new = (token : Token) → is_scalar token ≡ true → MatchBool passed (PassesToken old token new) (IsRefusedToken old token)
