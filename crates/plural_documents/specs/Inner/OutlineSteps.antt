-- Not a definition of the subject: what is made of the tokens that are held.
use Rattle.std.specs.Prelude.{◌≡◌, ℕ, List, ◌∷◌, ◌++◌, Option, Some, None, MatchOption, [], Bool, true, false, map, Result, Ok, Err, Vec, ⊤}
use Rattle.document_tokens.specs.declared.held_token.HeldToken.{HeldToken}
use Rattle.json.specs.Json as json
use Rattle.document_tokens.specs.HeldTokens.{Held, held_items, held_members, held_token, held_tokens}
use Rattle.plural_documents.specs.Outlines.{outline, outline_members, HeldText, IsHeld}
use Rattle.plural_documents.specs.declared.outline.Portion.{Portion}
use Rattle.plural_documents.specs.declared.outline.Portion.TheVariants as kept
use Rattle.serde_json.specs.Data.{Data, Items, Members, no_members, put}
use Rattle.serde_json.specs.declared.Value.{Value}
use Rattle.serde_json.specs.View.{view}
use Rattle.serde_json.specs.Read.{of_items, of_json, of_members}
use Rattle.std.specs.declared.alloc.Global.{Global}
use Rattle.document_tokens.specs.declared.error.JsonTextError.{JsonTextError}
use Rattle.document_tokens.specs.declared.error.JsonTextError.TheVariants as fault
use Rattle.plural_documents.specs.Inputs.{json_of, json_tree}

-- ---- With or without a sieve

-- without a sieve the whole
abbrev pub portion_by : {S : Type 0} → Option S → Portion S
portion_by None = kept.Whole
portion_by (Some sieve) = kept.Members sieve

abbrev pub portion_below : {S : Type 0} → (S → List ℕ → Portion S) → Option S → List ℕ → Portion S
portion_below keeps None key = kept.Whole
portion_below keeps (Some sieve) key = keeps sieve key

abbrev pub members_by : {S : Type 0} → (S → List ℕ → Portion S) → Option S → Members → Members
members_by keeps None members = members
members_by keeps (Some sieve) members = outline_members keeps sieve members

-- ---- What the tokens begin with

-- of these tokens one is the first, and the others are left; or there is none
abbrev pub YieldsHeld : List Held → Option HeldToken → List Held → Type 0
YieldsHeld old first new = MatchOption first ((old ≡ []) × (new ≡ [])) (λ token. old ≡ held_token token ∷ new)

-- these are left after a value
abbrev pub IsPassed : List Held → List Held → Type 0
IsPassed old new = (value : json.Json) (rest : List Held) → old ≡ held_tokens value ++ rest → new ≡ rest

-- this is kept of the value
abbrev pub IsOutlined : {S : Type 0} → (S → List ℕ → Portion S) → Option S → List Held → Data → List Held → Type 0
IsOutlined keeps sieve old part new =
    (value : json.Json) (rest : List Held) (whole : Data) → old ≡ held_tokens value ++ rest → of_json value ≡ Some whole
    → (new ≡ rest) × (outline keeps (portion_by sieve) whole ≡ Some part)

-- this is kept of a value that is this token alone
abbrev pub IsOneToken : {S : Type 0} → (S → List ℕ → Portion S) → Held → Data → Type 0
IsOneToken {S} keeps token part = (sieve : Option S) (rest : List Held) → IsOutlined keeps sieve (token ∷ rest) part rest

-- it opens an array or an object
abbrev pub opens : Held → Bool
opens Held.begin_object = true
opens Held.begin_array = true
opens _ = false

-- one more item
abbrev pub AddsItem : {S : Type 0} → (S → List ℕ → Portion S) → List Held → List Value → List Value → List Held → Type 0
AddsItem keeps old before after new = (value : Value) × (after ≡ before ++ value ∷ []) × IsOutlined keeps None old (view value) new

-- these are the items up to the end of the array
abbrev pub AreItems : List Held → Items → List Held → Type 0
AreItems old found new =
    (items : json.Items) (rest : List Held) (whole : Items) → old ≡ held_items items ++ rest → of_items items ≡ Some whole
    → (new ≡ rest) × (whole ≡ found)

-- this is kept of the members up to the end of the object
abbrev pub AreOutlined : {S : Type 0} → (S → List ℕ → Portion S) → Option S → List Held → Members → List Held → Type 0
AreOutlined keeps sieve old part new =
    (members : json.Members) (rest : List Held) (whole : Members) → old ≡ held_members members ++ rest
    → of_members members no_members ≡ Some whole → (new ≡ rest) × (members_by keeps sieve whole ≡ part)

-- ---- A member

-- what is kept of a value goes in under the key, in place of what stood there
abbrev pub put_portion : List ℕ → Option Data → Members → Members
put_portion key None members = members
put_portion key (Some part) members = put key part members

abbrev pub KeepsPart : {S : Type 0} → (S → List ℕ → Portion S) → Portion S → List ℕ → List Held → Members → Members → List Held → Type 0
KeepsPart keeps portion key old before after new =
    (value : json.Json) (rest : List Held) (whole : Data) → old ≡ held_tokens value ++ rest → of_json value ≡ Some whole
    → (new ≡ rest) × (after ≡ put_portion key (outline keeps portion whole) before)

-- ---- what is held of a text

-- the tokens of the value that the bytes write; or they write none, or memory ran out
abbrev pub GivesTokens : List ℕ → Result (Vec HeldToken Global) JsonTextError → Type 0
GivesTokens bytes (Ok tokens) = (value : json.Json) × (json_tree bytes ≡ Some value) × (map held_token tokens.items ≡ held_tokens value)
GivesTokens bytes (Err fault.Json) = json_of bytes ≡ None
GivesTokens bytes (Err fault.Memory) = ⊤

-- what is held of the value of a text has these tokens
abbrev pub Holds : HeldText → List Held → Type 0
Holds text tokens =
    (held : Data) × IsHeld text held × ((value : json.Json) × (tokens ≡ held_tokens value) × (of_json value ≡ Some held))
