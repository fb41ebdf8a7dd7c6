-- Which tokens come at a place of a JSON text.
use Rattle.std.proofs.Common.{◌≡◌, ℕ, suc, ◌-◌, ◌<◌, ◌≤◌, List, [], ◌∷◌, ◌++◌, length, Bool, true, false, refl, sym, ap, subst, ◌∙◌, arith}
use Rattle.std.specs.Prelude.{max}
use Rattle.json.specs.Json.{Json, null, boolean, number, string, array, object, Items, no_items, item, Members, no_members, member}
use Rattle.json.specs.Token.{Token}
use Rattle.json.specs.Tree.{depth, items_depth, items_tokens, json_tokens, members_depth, members_tokens}
use Rattle.document_tokens.specs.Inner.OpenBrackets.{Comes, CompletesOpen}

-- ---- Lists

abbrev pub first_or : Token → List Token → Token
first_or t [] = t
first_or t (u ∷ us) = u

abbrev pub rest_of : List Token → List Token
rest_of [] = []
rest_of (u ∷ us) = us

-- what is so of these is so of the same
by_first : (P : Token → List Token → Type 0) (t u : Token) (ts us : List Token) → t ∷ ts ≡ u ∷ us → P u us → P t ts
by_first P t u ts us same is =
    subst (λ (x : Token). P x ts) (sym (ap (first_or t) same)) (subst (λ (xs : List Token). P u xs) (sym (ap rest_of same)) is)

pub joined : {T : Type 0} (one two three : List T) → (one ++ two) ++ three ≡ one ++ (two ++ three)
joined [] two three = refl
joined (t ∷ one) two three = ap (λ ts. t ∷ ts) (joined one two three)

-- ---- What comes after the first token

module _ (most : ℕ) (rest : List Token) where
  -- where a value is due
  abbrev pub FollowsDue : List Bool → Token → List Token → Type 0
  FollowsDue opened Token.begin_object ts = (length opened < most) × CompletesOpen most rest (true ∷ opened) ts
  FollowsDue opened Token.begin_array ts = (length opened < most) × CompletesOpen most rest (false ∷ opened) ts
  FollowsDue opened Token.end_object ts = ⊥
  FollowsDue opened Token.end_array ts = ⊥
  FollowsDue opened (Token.key k) ts = ⊥
  FollowsDue opened (Token.string s) ts = CompletesOpen most rest opened ts
  FollowsDue opened (Token.number s) ts = CompletesOpen most rest opened ts
  FollowsDue opened (Token.boolean b) ts = CompletesOpen most rest opened ts
  FollowsDue opened Token.null ts = CompletesOpen most rest opened ts
  FollowsDue opened Token.bad ts = ⊥

  -- in an array
  abbrev pub FollowsItem : List Bool → Token → List Token → Type 0
  FollowsItem opened Token.begin_object ts = FollowsDue (false ∷ opened) Token.begin_object ts
  FollowsItem opened Token.begin_array ts = FollowsDue (false ∷ opened) Token.begin_array ts
  FollowsItem opened Token.end_object ts = ⊥
  FollowsItem opened Token.end_array ts = CompletesOpen most rest opened ts
  FollowsItem opened (Token.key k) ts = ⊥
  FollowsItem opened (Token.string s) ts = CompletesOpen most rest (false ∷ opened) ts
  FollowsItem opened (Token.number s) ts = CompletesOpen most rest (false ∷ opened) ts
  FollowsItem opened (Token.boolean b) ts = CompletesOpen most rest (false ∷ opened) ts
  FollowsItem opened Token.null ts = CompletesOpen most rest (false ∷ opened) ts
  FollowsItem opened Token.bad ts = ⊥

  -- in an object
  abbrev pub FollowsMember : List Bool → Token → List Token → Type 0
  FollowsMember opened Token.begin_object ts = ⊥
  FollowsMember opened Token.begin_array ts = ⊥
  FollowsMember opened Token.end_object ts = CompletesOpen most rest opened ts
  FollowsMember opened Token.end_array ts = ⊥
  FollowsMember opened (Token.key k) ts = Comes most rest true (true ∷ opened) ts
  FollowsMember opened (Token.string s) ts = ⊥
  FollowsMember opened (Token.number s) ts = ⊥
  FollowsMember opened (Token.boolean b) ts = ⊥
  FollowsMember opened Token.null ts = ⊥
  FollowsMember opened Token.bad ts = ⊥

  abbrev pub Follows : Bool → List Bool → Token → List Token → Type 0
  Follows true opened t ts = FollowsDue opened t ts
  Follows false [] t ts = t ∷ ts ≡ rest
  Follows false (true ∷ opened) t ts = FollowsMember opened t ts
  Follows false (false ∷ opened) t ts = FollowsItem opened t ts

  -- one level more
  below : (n d : ℕ) → suc d ≤ most - n → n < most
  below n d is = omega arith

  inside : (n d : ℕ) → suc d ≤ most - n → d ≤ most - suc n
  inside n d is = omega arith

  outside : (n d : ℕ) → n < most → d ≤ most - suc n → suc d ≤ most - n
  outside n d is in_most = omega arith

  nothing : (n : ℕ) → 0 ≤ n
  nothing n = omega arith

  after_value : (j : Json) (opened : List Bool) (t : Token) (ts after : List Token) → t ∷ ts ≡ json_tokens j ++ after
      → depth j ≤ most - length opened → CompletesOpen most rest opened after → Follows true opened t ts
  after_value null opened t ts after is nests done = by_first (FollowsDue opened) t Token.null ts after is done
  after_value (boolean b) opened t ts after is nests done = by_first (FollowsDue opened) t (Token.boolean b) ts after is done
  after_value (number s) opened t ts after is nests done = by_first (FollowsDue opened) t (Token.number s) ts after is done
  after_value (string s) opened t ts after is nests done = by_first (FollowsDue opened) t (Token.string s) ts after is done
  after_value (array js) opened t ts after is nests done =
      by_first (FollowsDue opened) t Token.begin_array ts (items_tokens js ++ after) is
      (below (length opened) (items_depth js) nests, (js, after, refl, inside (length opened) (items_depth js) nests, done))
  after_value (object ms) opened t ts after is nests done =
      by_first (FollowsDue opened) t Token.begin_object ts (members_tokens ms ++ after) is
      (below (length opened) (members_depth ms) nests, (ms, after, refl, inside (length opened) (members_depth ms) nests, done))

  -- an item is a value
  in_array : (opened : List Bool) (t : Token) (ts : List Token) → Follows true (false ∷ opened) t ts → Follows false (false ∷ opened) t ts
  in_array opened Token.begin_object ts is = is
  in_array opened Token.begin_array ts is = is
  in_array opened Token.end_object ts is = is
  in_array opened Token.end_array ts is = absurd is
  in_array opened (Token.key k) ts is = is
  in_array opened (Token.string s) ts is = is
  in_array opened (Token.number s) ts is = is
  in_array opened (Token.boolean b) ts is = is
  in_array opened Token.null ts is = is
  in_array opened Token.bad ts is = is

  both : (one two n : ℕ) → max one two ≤ n → (one ≤ n) × (two ≤ n)
  both one two n is = (grind arith, grind arith)

  either : (one two n : ℕ) → one ≤ n → two ≤ n → max one two ≤ n
  either one two n first second = grind arith

  after_items : (js : Items) (opened : List Bool) (t : Token) (ts after : List Token) → t ∷ ts ≡ items_tokens js ++ after
      → items_depth js ≤ most - suc (length opened) → CompletesOpen most rest opened after → Follows false (false ∷ opened) t ts
  after_items no_items opened t ts after is nests done =
      by_first (FollowsItem opened) t Token.end_array ts after is done
  after_items (item j js) opened t ts after is nests done =
      let deep = both (depth j) (items_depth js) (most - suc (length opened)) nests in
      in_array opened t ts
      (after_value j (false ∷ opened) t ts (items_tokens js ++ after) (is ∙ joined (json_tokens j) (items_tokens js) after) deep.0
      (js, after, refl, deep.1, done))

  after_members : (ms : Members) (opened : List Bool) (t : Token) (ts after : List Token) → t ∷ ts ≡ members_tokens ms ++ after
      → members_depth ms ≤ most - suc (length opened) → CompletesOpen most rest opened after → Follows false (true ∷ opened) t ts
  after_members no_members opened t ts after is nests done =
      by_first (FollowsMember opened) t Token.end_object ts after is done
  after_members (member k j ms) opened t ts after is nests done =
      let deep = both (depth j) (members_depth ms) (most - suc (length opened)) nests in
      by_first (FollowsMember opened) t (Token.key k) ts ((json_tokens j ++ members_tokens ms) ++ after) is
      (j, members_tokens ms ++ after, joined (json_tokens j) (members_tokens ms) after, deep.0, (ms, after, refl, deep.1, done))

  pub follows : (is_due : Bool) (opened : List Bool) (t : Token) (ts : List Token) → Comes most rest is_due opened (t ∷ ts)
      → Follows is_due opened t ts
  follows true opened t ts comes = after_value comes.0 opened t ts comes.1 comes.2 comes.3 comes.4
  follows false [] t ts comes = comes
  follows false (true ∷ opened) t ts comes = after_members comes.0 opened t ts comes.1 comes.2 comes.3 comes.4
  follows false (false ∷ opened) t ts comes = after_items comes.0 opened t ts comes.1 comes.2 comes.3 comes.4

  -- ---- And the other way about

  -- a value, and the items after it
  item_first : (opened : List Bool) (ts : List Token) → Comes most rest true (false ∷ opened) ts → Comes most rest false (false ∷ opened) ts
  item_first opened ts (j, after, is, nests, (js, last, are, all_nest, done)) = (
    item j js,
    last,
    is ∙ ap (λ us. json_tokens j ++ us) are ∙ sym (joined (json_tokens j) (items_tokens js) last),
    either (depth j) (items_depth js) (most - suc (length opened)) nests all_nest,
    done,
  )

  value_first : (opened : List Bool) (t : Token) (ts : List Token) → Follows true opened t ts → Comes most rest true opened (t ∷ ts)
  value_first opened Token.begin_object ts (in_most, (ms, after, is, nests, done)) =
      (object ms, after, ap (λ us. Token.begin_object ∷ us) is, outside (length opened) (members_depth ms) in_most nests, done)
  value_first opened Token.begin_array ts (in_most, (js, after, is, nests, done)) =
      (array js, after, ap (λ us. Token.begin_array ∷ us) is, outside (length opened) (items_depth js) in_most nests, done)
  value_first opened Token.end_object ts is = absurd is
  value_first opened Token.end_array ts is = absurd is
  value_first opened (Token.key k) ts is = absurd is
  value_first opened (Token.string s) ts is = (string s, ts, refl, nothing (most - length opened), is)
  value_first opened (Token.number s) ts is = (number s, ts, refl, nothing (most - length opened), is)
  value_first opened (Token.boolean b) ts is = (boolean b, ts, refl, nothing (most - length opened), is)
  value_first opened Token.null ts is = (null, ts, refl, nothing (most - length opened), is)
  value_first opened Token.bad ts is = absurd is

  key_first : (opened : List Bool) (k : List ℕ) (ts : List Token) → Comes most rest true (true ∷ opened) ts
      → Comes most rest false (true ∷ opened) (Token.key k ∷ ts)
  key_first opened k ts (j, after, is, nests, (ms, last, are, all_nest, done)) = (
    member k j ms,
    last,
    ap (λ us. Token.key k ∷ us) (is ∙ ap (λ us. json_tokens j ++ us) are ∙ sym (joined (json_tokens j) (members_tokens ms) last)),
    either (depth j) (members_depth ms) (most - suc (length opened)) nests all_nest,
    done,
  )

  in_array_first : (opened : List Bool) (t : Token) (ts : List Token) → Follows true (false ∷ opened) t ts
      → Comes most rest false (false ∷ opened) (t ∷ ts)
  in_array_first opened t ts is = item_first opened (t ∷ ts) (value_first (false ∷ opened) t ts is)

  pub leads : (is_due : Bool) (opened : List Bool) (t : Token) (ts : List Token) → Follows is_due opened t ts
      → Comes most rest is_due opened (t ∷ ts)
  leads true opened t ts is = value_first opened t ts is
  leads false [] t ts is = is
  leads false (true ∷ opened) Token.begin_object ts is = absurd is
  leads false (true ∷ opened) Token.begin_array ts is = absurd is
  leads false (true ∷ opened) Token.end_object ts is = (no_members, ts, refl, nothing (most - suc (length opened)), is)
  leads false (true ∷ opened) Token.end_array ts is = absurd is
  leads false (true ∷ opened) (Token.key k) ts is = key_first opened k ts is
  leads false (true ∷ opened) (Token.string s) ts is = absurd is
  leads false (true ∷ opened) (Token.number s) ts is = absurd is
  leads false (true ∷ opened) (Token.boolean b) ts is = absurd is
  leads false (true ∷ opened) Token.null ts is = absurd is
  leads false (true ∷ opened) Token.bad ts is = absurd is
  leads false (false ∷ opened) Token.begin_object ts is = in_array_first opened Token.begin_object ts is
  leads false (false ∷ opened) Token.begin_array ts is = in_array_first opened Token.begin_array ts is
  leads false (false ∷ opened) Token.end_object ts is = absurd is
  leads false (false ∷ opened) Token.end_array ts is = (no_items, ts, refl, nothing (most - suc (length opened)), is)
  leads false (false ∷ opened) (Token.key k) ts is = absurd is
  leads false (false ∷ opened) (Token.string s) ts is = in_array_first opened (Token.string s) ts is
  leads false (false ∷ opened) (Token.number s) ts is = in_array_first opened (Token.number s) ts is
  leads false (false ∷ opened) (Token.boolean b) ts is = in_array_first opened (Token.boolean b) ts is
  leads false (false ∷ opened) Token.null ts is = in_array_first opened Token.null ts is
  leads false (false ∷ opened) Token.bad ts is = absurd is

-- ---- The end

pub no_value : (j : Json) (after : List Token) → [] ≡ json_tokens j ++ after → ⊥
no_value null after is = absurd (cc)
no_value (boolean b) after is = absurd (cc)
no_value (number s) after is = absurd (cc)
no_value (string s) after is = absurd (cc)
no_value (array js) after is = absurd (cc)
no_value (object ms) after is = absurd (cc)

pub no_items_left : (js : Items) (after : List Token) → [] ≡ items_tokens js ++ after → ⊥
no_items_left no_items after is = absurd (cc)
no_items_left (item j js) after is = no_value j (items_tokens js ++ after) (is ∙ joined (json_tokens j) (items_tokens js) after)

pub no_members_left : (ms : Members) (after : List Token) → [] ≡ members_tokens ms ++ after → ⊥
no_members_left no_members after is = absurd (cc)
no_members_left (member k j ms) after is = absurd (cc)

-- a place that is due, or where something is open, isn't the end
pub not_end : (most : ℕ) (rest : List Token) (is_due : Bool) (opened : List Bool) → (is_due ≡ false → opened ≡ [] → ⊥)
    → Comes most rest is_due opened [] → ⊥
not_end most rest true opened other comes = no_value comes.0 comes.1 comes.2
not_end most rest false [] other comes = other refl refl
not_end most rest false (true ∷ opened) other comes = no_members_left comes.0 comes.1 comes.2
not_end most rest false (false ∷ opened) other comes = no_items_left comes.0 comes.1 comes.2
