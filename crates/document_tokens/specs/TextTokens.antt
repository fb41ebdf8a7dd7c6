-- The tokens that are held of a JSON text: those of the value that it writes, as serde_json reads it,
-- and of an object only those of the members with some names, if names are given.
--     json_part test value      of an object the members whose keys pass, and any other value
--     AreHeldTokens names text tokens      what is held of a text
--     GivesHeldTokens names text result      those, or why there are none
use Rattle.std.specs.Prelude.{◌≡◌, ℕ, ◌<◌, List, length, map, Bool, true, bytes_eq, if◌then◌else◌, Option, Some, None, option_and_then, option_map, Result, Ok, Err, Vec}
use Rattle.std.specs.Borrow.{Bor}
use Rattle.std.specs.List.{list_any}
use Rattle.std.specs.declared.alloc.Global.{Global}
use Rattle.json.specs.Json as json
use Rattle.json.specs.Lex.{tokens}
use Rattle.document_tokens.specs.HeldTokens.{Held, held_token, held_tokens}
use Rattle.document_tokens.specs.declared.error.JsonTextError.{JsonTextError}
use Rattle.document_tokens.specs.declared.error.JsonTextError.TheVariants as fault
use Rattle.document_tokens.specs.declared.held_token.HeldToken.{HeldToken}
use Rattle.serde_json.specs.Data.{Data}
use Rattle.serde_json.specs.Read.{max_depth, of_json, read}

-- ---- Names

abbrev pub key_names_view : List (Bor (List ℕ)) → List (List ℕ)
key_names_view names = map (λ name. name.now) names

abbrev pub given_names : Option (Bor (List (Bor (List ℕ)))) → Option (List (List ℕ))
given_names names = option_map (λ these. key_names_view these.now) names

abbrev pub is_among_names : List (List ℕ) → List ℕ → Bool
is_among_names names key = list_any (λ name. bytes_eq key name) names

-- any, if no names are given
abbrev pub is_held_name : Option (List (List ℕ)) → List ℕ → Bool
is_held_name None key = true
is_held_name (Some names) key = is_among_names names key

-- ---- Values

-- the members whose keys pass
abbrev pub members_part : (List ℕ → Bool) → json.Members → json.Members
members_part test json.no_members = json.no_members
members_part test (json.member key value members) =
    if test key then json.member key value (members_part test members) else members_part test members

-- of an object these members, and any other value
abbrev pub json_part : (List ℕ → Bool) → json.Json → json.Json
json_part test json.null = json.null
json_part test (json.boolean truth) = json.boolean truth
json_part test (json.number text) = json.number text
json_part test (json.string text) = json.string text
json_part test (json.array items) = json.array items
json_part test (json.object members) = json.object (members_part test members)

-- ---- Texts

-- the value that a text writes, with every member of each object
abbrev pub json_value_of : List ℕ → Option json.Json
json_value_of text = option_and_then (λ p. json.if_last p.0 p.1) (json.value max_depth (tokens text))

-- these are held of the value, whose numbers aren't too large
abbrev pub AreHeldTokens : Option (List (List ℕ)) → List ℕ → List Held → Type 0
AreHeldTokens names text held =
    (value : json.Json) × (whole : Data) × (json_value_of text ≡ Some value) × (of_json value ≡ Some whole)
    × (held ≡ held_tokens (json_part (is_held_name names) value))

-- so it is; or the text writes no value, or memory ran out, which needs a byte
abbrev pub GivesHeldTokens : Option (List (List ℕ)) → List ℕ → Result (Vec HeldToken Global) JsonTextError → Type 0
GivesHeldTokens names text (Ok held) = AreHeldTokens names text (map held_token held.items)
GivesHeldTokens names text (Err fault.Json) = read text ≡ None
GivesHeldTokens names text (Err fault.Memory) = 0 < length text
