-- The tokens that are held of a JSON value.
--     held_token token      a token of the code
--     held_tokens value      those of a value
use Rattle.std.specs.Prelude.{ℕ, suc, ◌-◌, List, [], ◌∷◌, ◌++◌, Bool, Option, Some}
use Rattle.json.specs.Json as json
use Rattle.json.specs.Token.{Token}
use Rattle.document_tokens.specs.declared.held_token.HeldToken.{HeldToken}
use Rattle.document_tokens.specs.declared.held_token.HeldToken.TheVariants as variant
use Rattle.serde_json.specs.Data.{Num}
use Rattle.serde_json.specs.Read.{number_of}
use Rattle.serde_json.specs.View.{number_view}

-- a token, and of a number in place of its text the number that this writes, unless it is too large
pub data Held : Type 0 where
  begin_object : Held
  end_object : Held
  begin_array : Held
  end_array : Held
  key : List ℕ → Held
  string : List ℕ → Held
  number : Option Num → Held
  boolean : Bool → Held
  null : Held

-- of a token of the code
abbrev pub held_token : HeldToken → Held
held_token variant.BeginObject = Held.begin_object
held_token variant.EndObject = Held.end_object
held_token variant.BeginArray = Held.begin_array
held_token variant.EndArray = Held.end_array
held_token (variant.Key name) = Held.key name.now
held_token (variant.String text) = Held.string text.now
held_token (variant.Number n) = Held.number (Some (number_view n))
held_token (variant.Bool truth) = Held.boolean truth
held_token variant.Null = Held.null

-- of a token of a text; a value has no bad one
abbrev pub held_of : Token → Held
held_of Token.begin_object = Held.begin_object
held_of Token.end_object = Held.end_object
held_of Token.begin_array = Held.begin_array
held_of Token.end_array = Held.end_array
held_of (Token.key name) = Held.key name
held_of (Token.string text) = Held.string text
held_of (Token.number text) = Held.number (number_of text)
held_of (Token.boolean truth) = Held.boolean truth
held_of Token.null = Held.null
held_of Token.bad = Held.null

-- of a value
abbrev mutual
  pub held_tokens : json.Json → List Held
  held_tokens json.null = Held.null ∷ []
  held_tokens (json.boolean truth) = Held.boolean truth ∷ []
  held_tokens (json.number text) = Held.number (number_of text) ∷ []
  held_tokens (json.string text) = Held.string text ∷ []
  held_tokens (json.array items) = Held.begin_array ∷ held_items items
  held_tokens (json.object members) = Held.begin_object ∷ held_members members

  -- with the closing bracket
  pub held_items : json.Items → List Held
  held_items json.no_items = Held.end_array ∷ []
  held_items (json.item value items) = held_tokens value ++ held_items items

  pub held_members : json.Members → List Held
  held_members json.no_members = Held.end_object ∷ []
  held_members (json.member name value members) = Held.key name ∷ (held_tokens value ++ held_members members)

-- how many arrays and objects are open after a token
abbrev pub opened_after : ℕ → Held → ℕ
opened_after count Held.begin_object = suc count
opened_after count Held.end_object = count - 1
opened_after count Held.begin_array = suc count
opened_after count Held.end_array = count - 1
opened_after count (Held.key name) = count
opened_after count (Held.string text) = count
opened_after count (Held.number n) = count
opened_after count (Held.boolean truth) = count
opened_after count Held.null = count
