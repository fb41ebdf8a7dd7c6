-- The tokens that are held of a value.
use Rattle.std.proofs.Common.{◌≡◌, List, [], ◌∷◌, ◌++◌, ◌∙◌, append_assoc}
use Rattle.json.specs.Json as json
use Rattle.document_tokens.specs.HeldTokens.{Held, held_items, held_members, held_tokens}

abbrev pub first_or : Held → List Held → Held
first_or t [] = t
first_or t (u ∷ us) = u

abbrev pub rest_of : List Held → List Held
rest_of [] = []
rest_of (u ∷ us) = us

-- ---- No value without a token

pub no_value : (j : json.Json) (after : List Held) → [] ≡ held_tokens j ++ after → ⊥
no_value json.null after is = absurd (cc)
no_value (json.boolean b) after is = absurd (cc)
no_value (json.number s) after is = absurd (cc)
no_value (json.string s) after is = absurd (cc)
no_value (json.array js) after is = absurd (cc)
no_value (json.object ms) after is = absurd (cc)

pub no_items_left : (js : json.Items) (after : List Held) → [] ≡ held_items js ++ after → ⊥
no_items_left json.no_items after is = absurd (cc)
no_items_left (json.item j js) after is = no_value j (held_items js ++ after) (is ∙ append_assoc (held_tokens j) (held_items js) after)

pub no_members_left : (ms : json.Members) (after : List Held) → [] ≡ held_members ms ++ after → ⊥
no_members_left json.no_members after is = absurd (cc)
no_members_left (json.member k j ms) after is = absurd (cc)
