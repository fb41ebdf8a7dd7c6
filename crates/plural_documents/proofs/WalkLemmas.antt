-- The steps through the items of an array and the members of an object.
use Rattle.std.proofs.Common.{◌≡◌, ℕ, List, [], ◌∷◌, ◌++◌, Bool, false, true≢false, Option, Some, None, refl, sym, ap, ◌∙◌, append_assoc}
use Rattle.std.specs.Prelude.{option_and_then, option_map}
use Rattle.json.specs.Json as json
use Rattle.std.specs.Borrow.{Bor}
use Rattle.document_tokens.specs.HeldTokens.{Held, held_items, held_members, held_token, held_tokens}
use Rattle.document_tokens.specs.declared.held_token.HeldToken.{HeldToken}
use Rattle.document_tokens.specs.declared.held_token.HeldToken.TheVariants as variant
use Rattle.plural_documents.specs.Inner.OutlineSteps.{IsOneToken, IsOutlined, KeepsPart, members_by, opens, portion_below}
use Rattle.plural_documents.specs.declared.outline.Portion.{Portion}
use Rattle.plural_documents.proofs.ItemLemmas.{after_one_more, items_after}
use Rattle.plural_documents.proofs.HeldLemmas.{no_members_left, rest_of}
use Rattle.plural_documents.proofs.OutlinedLemmas.{held_map, none_outlined, null_outlined, some_is}
use Rattle.plural_documents.proofs.OutlineLemmas.{AreSorted, members_put, sorted_put}
use Rattle.serde_json.specs.Data.{Items, no_items, item, Members, null, put}
use Rattle.serde_json.specs.Read.{of_items, of_json, of_members}
use Rattle.serde_json.specs.View.{view}
use Rattle.serde_json.specs.declared.number.Number.{Number}
use Rattle.serde_json.specs.declared.value.Value.{Value}

pub held_then : {A B : Type 0} (o : Option A) (next : A → Option B) (b : B) → option_and_then next o ≡ Some b
    → (a : A) × (o ≡ Some a) × (next a ≡ Some b)
held_then None next b is = absurd (cc)
held_then (Some a) next b is = (a, refl, is)

-- ---- Tokens

-- what isn't the end of an array doesn't stand for it
pub no_end : (first : HeldToken) → (first ≡ variant.EndArray → ⊥) → held_token first ≡ Held.end_array → ⊥
no_end variant.BeginObject other is = absurd (cc)
no_end variant.EndObject other is = absurd (cc)
no_end variant.BeginArray other is = absurd (cc)
no_end variant.EndArray other is = other refl
no_end (variant.Key k) other is = absurd (cc)
no_end (variant.String s) other is = absurd (cc)
no_end (variant.Number s) other is = absurd (cc)
no_end (variant.Bool b) other is = absurd (cc)
no_end variant.Null other is = absurd (cc)

-- what opens no array and no object doesn't stand for a bracket that does
pub no_opening : (first : HeldToken) → (first ≡ variant.BeginArray → ⊥) → (first ≡ variant.BeginObject → ⊥)
    → opens (held_token first) ≡ false
no_opening variant.BeginObject array object = absurd (object refl)
no_opening variant.EndObject array object = refl
no_opening variant.BeginArray array object = absurd (array refl)
no_opening variant.EndArray array object = refl
no_opening (variant.Key k) array object = refl
no_opening (variant.String s) array object = refl
no_opening (variant.Number n) array object = refl
no_opening (variant.Bool b) array object = refl
no_opening variant.Null array object = refl

-- null is kept of null, and of a token that is no value
pub null_kept : {S : Type 0} (keeps : S → List ℕ → Portion S) (token : HeldToken) → ((n : Number) → token ≡ variant.Number n → ⊥)
    → ((b : Bool) → token ≡ variant.Bool b → ⊥) → ((s : Bor (List ℕ)) → token ≡ variant.String s → ⊥) → opens (held_token token) ≡ false
    → IsOneToken keeps (held_token token) null
null_kept keeps variant.BeginObject number truth text closed sieve rest = absurd (true≢false closed)
null_kept keeps variant.EndObject number truth text closed sieve rest = none_outlined keeps sieve Held.end_object null rest rest refl
null_kept keeps variant.BeginArray number truth text closed sieve rest = absurd (true≢false closed)
null_kept keeps variant.EndArray number truth text closed sieve rest = none_outlined keeps sieve Held.end_array null rest rest refl
null_kept keeps (variant.Key k) number truth text closed sieve rest = none_outlined keeps sieve (Held.key k.now) null rest rest refl
null_kept keeps (variant.String s) number truth text closed sieve rest = absurd (text s refl)
null_kept keeps (variant.Number n) number truth text closed sieve rest = absurd (number n refl)
null_kept keeps (variant.Bool b) number truth text closed sieve rest = absurd (truth b refl)
null_kept keeps variant.Null number truth text closed sieve rest = null_outlined keeps sieve rest

-- what is no key doesn't stand for one
pub no_key : (first : HeldToken) → ((name : Bor (List ℕ)) → first ≡ variant.Key name → ⊥) → (k : List ℕ) → held_token first ≡ Held.key k → ⊥
no_key variant.BeginObject other k is = absurd (cc)
no_key variant.EndObject other k is = absurd (cc)
no_key variant.BeginArray other k is = absurd (cc)
no_key variant.EndArray other k is = absurd (cc)
no_key (variant.Key name) other k is = other name refl
no_key (variant.String s) other k is = absurd (cc)
no_key (variant.Number s) other k is = absurd (cc)
no_key (variant.Bool b) other k is = absurd (cc)
no_key variant.Null other k is = absurd (cc)

-- ---- Items

no_end_first : (j : json.Json) (ts after : List Held) → Held.end_array ∷ ts ≡ held_tokens j ++ after → ⊥
no_end_first json.null ts after is = absurd (cc)
no_end_first (json.boolean b) ts after is = absurd (cc)
no_end_first (json.number s) ts after is = absurd (cc)
no_end_first (json.string s) ts after is = absurd (cc)
no_end_first (json.array js) ts after is = absurd (cc)
no_end_first (json.object ms) ts after is = absurd (cc)

-- the array ends
pub items_ended : (others : json.Items) (ts rest : List Held) (more : Items) → Held.end_array ∷ ts ≡ held_items others ++ rest
    → of_items others ≡ Some more → (ts ≡ rest) × (more ≡ no_items)
items_ended json.no_items ts rest more is read = (ap rest_of is, sym (some_is no_items more read))
items_ended (json.item j js) ts rest more is read =
    absurd (no_end_first j ts (held_items js ++ rest) (is ∙ append_assoc (held_tokens j) (held_items js) rest))

-- one more item
module _ {S : Type 0} (keeps : S → List ℕ → Portion S) where
  abbrev pub ItemsGoOn : List Value → List Held → List Held → Items → Type 0
  ItemsGoOn values new rest whole =
      (others : json.Items) × (more : Items) × (new ≡ held_items others ++ rest) × (of_items others ≡ Some more)
      × (whole ≡ items_after values more)

  pub item_added : (values : List Value) (value : Value) (others : json.Items) (t : Held) (ts rest new : List Held) (more whole : Items)
      → t ∷ ts ≡ held_items others ++ rest → (t ≡ Held.end_array → ⊥) → of_items others ≡ Some more → whole ≡ items_after values more
      → IsOutlined keeps None (t ∷ ts) (view value) new → ItemsGoOn (values ++ value ∷ []) new rest whole
  item_added values value json.no_items t ts rest new more whole is other read so_far outlined =
      let same : t ≡ Held.end_array = cc in absurd (other same)
  item_added values value (json.item j js) t ts rest new more whole is other read so_far outlined =
      let first = held_then (of_json j) (λ d. option_map (item d) (of_items js)) more read in
      let after = held_map (item first.0) (of_items js) more first.2 in
      let kept = outlined j (held_items js ++ rest) first.0 (is ∙ append_assoc (held_tokens j) (held_items js) rest) first.1 in (
        js,
        after.0,
        kept.0,
        after.1,
        so_far ∙ ap (items_after values) (after.2 ∙ ap (λ d. item d after.0) (some_is first.0 (view value) kept.1))
            ∙ sym (after_one_more values value after.0),
      )

  -- ---- Members

  module _ (sieve : Option S) where
    abbrev pub MembersGoOn : Members → List Held → List Held → Members → Type 0
    MembersGoOn found new rest whole =
        (others : json.Members) × (before : Members) × (new ≡ held_members others ++ rest) × (of_members others before ≡ Some whole)
        × AreSorted before × (members_by keeps sieve before ≡ found)

    -- one more member
    pub member_added : (k : List ℕ) (ts new rest : List Held) (whole found after : Members)
        → MembersGoOn found (Held.key k ∷ ts) rest whole → KeepsPart keeps (portion_below keeps sieve k) k ts found after new
        → MembersGoOn after new rest whole
    member_added k ts new rest whole found after (json.no_members, before, is, read, sorted, so_far) keeps_it = absurd (cc)
    member_added k ts new rest whole found after (json.member l j ms, before, is, read, sorted, so_far) keeps_it =
        let same : k ≡ l = cc in
        let first = held_then (of_json j) (λ d. of_members ms (put l d before)) whole read in
        let kept =
        keeps_it j (held_members ms ++ rest) first.0 (ap rest_of is ∙ append_assoc (held_tokens j) (held_members ms) rest) first.1 in (
          ms,
          put k first.0 before,
          kept.0,
          ap (λ m. of_members ms (put m first.0 before)) same ∙ first.2,
          sorted_put k first.0 before sorted,
          members_put S keeps sieve k first.0 before found sorted so_far ∙ sym kept.1,
        )

    -- a token that is no key
    abbrev pub IsNoKey : Held → Type 0
    IsNoKey t = (k : List ℕ) → t ≡ Held.key k → ⊥

    -- the object ends
    pub members_ended : (t : Held) (ts rest : List Held) (whole found : Members) → IsNoKey t → MembersGoOn found (t ∷ ts) rest whole
        → (ts ≡ rest) × (members_by keeps sieve whole ≡ found)
    members_ended t ts rest whole found other (json.no_members, before, is, read, sorted, so_far) =
        (ap rest_of is, ap (members_by keeps sieve) (sym (some_is before whole read)) ∙ so_far)
    members_ended t ts rest whole found other (json.member l j ms, before, is, read, sorted, so_far) =
        let same : t ≡ Held.key l = cc in absurd (other l same)

    pub members_not_cut : (rest : List Held) (whole found : Members) → MembersGoOn found [] rest whole → ⊥
    members_not_cut rest whole found go_on = no_members_left go_on.0 rest go_on.2
