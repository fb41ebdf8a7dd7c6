-- The walk through the objects of a text, by the tokens that are held of it.
use Rattle.std.proofs.Common.{◌≡◌, ℕ, List, [], ◌∷◌, ◌++◌, map, Option, Some, None, refl, sym, ap, subst, ◌∙◌, append_assoc}
use Rattle.std.proofs.lemmas.List.{append-nil}
use Rattle.json.specs.Json as json
use Rattle.json.specs.Strict.{keys}
use Rattle.document_tokens.specs.HeldTokens.{Held, held_members, held_tokens}
use Rattle.plural_documents.specs.Inner.KeysStanding.{AddsRepeated, AreStanding, HasAdded, IsFoundAgain, object_path}
use Rattle.plural_documents.specs.RepeatedKeys.{AreRepeated, AreRepeatedBelow, AreRepeatedIn, AreRepeatedInObject, Path}
use Rattle.plural_documents.specs.RepeatedKeys.{RepeatedAt, path_below, repeated_view}
use Rattle.plural_documents.specs.declared.repeated_key.RepeatedKey.{RepeatedKey}
use Rattle.plural_documents.specs.declared.repeated_key.StandingKeys.{StandingKeys}
use Rattle.plural_documents.proofs.HeldLemmas.{no_members_left, rest_of}

-- ---- What was added

pub none_added : (old : List RepeatedKey) → HasAdded old old []
none_added old = sym (append-nil (map repeated_view old))

both_added : (old between new : List RepeatedKey) (first second : List RepeatedAt) → HasAdded old between first
    → HasAdded between new second → HasAdded old new (first ++ second)
both_added old between new first second one two =
    two ∙ ap (λ seen. seen ++ second) one ∙ append_assoc (map repeated_view old) first second

-- ---- A value

-- nothing is found in a value without a path
nothing_without : (value : json.Json) → AreRepeatedIn None value []
nothing_without value = refl

-- or with one that is no object
nothing_in : (path : Option Path) (value : json.Json) (first : Held) (ts rest : List Held) → first ∷ ts ≡ held_tokens value ++ rest
    → object_path first path ≡ None → AreRepeatedIn path value []
nothing_in None value first ts rest is none = refl
nothing_in (Some path) json.null first ts rest is none = refl
nothing_in (Some path) (json.boolean truth) first ts rest is none = refl
nothing_in (Some path) (json.number text) first ts rest is none = refl
nothing_in (Some path) (json.string text) first ts rest is none = refl
nothing_in (Some path) (json.array items) first ts rest is none = refl
nothing_in (Some path) (json.object ms) first ts rest is none =
    let begins : first ≡ Held.begin_object = cc in
    let never : Some path ≡ None = sym (ap (λ t. object_path t (Some path)) begins) ∙ none in
    absurd (cc)

-- the value is passed
pub value_passed : (path : Option Path) (old : List RepeatedKey) (first : Held) (ts left : List Held)
    → object_path first path ≡ None
    → ((value : json.Json) (rest : List Held) → first ∷ ts ≡ held_tokens value ++ rest → left ≡ rest)
    → (value : json.Json) (rest : List Held) → first ∷ ts ≡ held_tokens value ++ rest
    → AddsRepeated (AreRepeatedIn path value) old old rest left
value_passed path old first ts left none passed value rest is =
    (passed value rest is, ([], nothing_in path value first ts rest is none, none_added old))

begins_object : (first : Held) (path : Option Path) (at : Path) → object_path first path ≡ Some at
    → (first ≡ Held.begin_object) × (path ≡ Some at)
begins_object Held.begin_object path at is = (refl, is)
begins_object Held.end_object path at is = absurd (cc)
begins_object Held.begin_array path at is = absurd (cc)
begins_object Held.end_array path at is = absurd (cc)
begins_object (Held.key name) path at is = absurd (cc)
begins_object (Held.string text) path at is = absurd (cc)
begins_object (Held.number n) path at is = absurd (cc)
begins_object (Held.boolean truth) path at is = absurd (cc)
begins_object Held.null path at is = absurd (cc)

abbrev pub AddsOfObject : Path → List Held → List RepeatedKey → List RepeatedKey → List Held → Type 0
AddsOfObject path ts old new left =
    (members : json.Members) (rest : List Held) → ts ≡ held_members members ++ rest
    → AddsRepeated (AreRepeatedInObject path members) old new rest left

-- the object is looked at
in_object : (at : Path) (ts left : List Held) (old new : List RepeatedKey) → AddsOfObject at ts old new left
    → (value : json.Json) (rest : List Held) → Held.begin_object ∷ ts ≡ held_tokens value ++ rest
    → AddsRepeated (AreRepeatedIn (Some at) value) old new rest left
in_object at ts left old new adds json.null rest is = absurd (cc)
in_object at ts left old new adds (json.boolean truth) rest is = absurd (cc)
in_object at ts left old new adds (json.number text) rest is = absurd (cc)
in_object at ts left old new adds (json.string text) rest is = absurd (cc)
in_object at ts left old new adds (json.array items) rest is = absurd (cc)
in_object at ts left old new adds (json.object members) rest is = adds members rest (ap rest_of is)

pub object_added : (path : Option Path) (at : Path) (first : Held) (ts left : List Held) (old new : List RepeatedKey)
    → object_path first path ≡ Some at → AddsOfObject at ts old new left
    → (value : json.Json) (rest : List Held) → first ∷ ts ≡ held_tokens value ++ rest
    → AddsRepeated (AreRepeatedIn path value) old new rest left
object_added path at first ts left old new looked adds value rest is =
    let begins = begins_object first path at looked in
    subst (λ p. AddsRepeated (AreRepeatedIn p value) old new rest left) (sym begins.1)
    (in_object at ts left old new adds value rest (ap (λ t. t ∷ ts) (sym begins.0) ∙ is))

-- ---- The members of an object

-- what is added so far comes before what is found in the members that are left
pub record Goes (path : Path) (members : json.Members) (rest left : List Held) (old now : List RepeatedKey) (standing : StandingKeys) : Type
    0 where
  pub others : json.Members
  pub before : List (List ℕ)
  pub inner : List RepeatedAt
  pub left_is : left ≡ held_members others ++ rest
  pub keys_are : keys members ≡ before ++ keys others
  pub stand : AreStanding before standing
  pub added : HasAdded old now inner
  pub go_on : (more : List RepeatedAt) → AreRepeatedBelow path others more → AreRepeatedBelow path members (inner ++ more)

pub goes_first : (path : Path) (members : json.Members) (rest left : List Held) (old : List RepeatedKey) (standing : StandingKeys)
    → left ≡ held_members members ++ rest → AreStanding [] standing → Goes path members rest left old old standing
goes_first path members rest left old standing is stand = record {
  others = members;
  before = [];
  inner = [];
  left_is = is;
  keys_are = refl;
  stand = stand;
  added = none_added old;
  go_on = λ more are. are;
}

abbrev pub AddsOfValue : Option Path → List Held → List RepeatedKey → List RepeatedKey → List Held → Type 0
AddsOfValue path ts old new left =
    (value : json.Json) (rest : List Held) → ts ≡ held_tokens value ++ rest → AddsRepeated (AreRepeatedIn path value) old new rest left

module _ (path : Path) (members : json.Members) (rest : List Held) (old now new : List RepeatedKey) (standing after : StandingKeys) where
  -- one more member
  pub goes_on : (key : List ℕ) (ts left : List Held) → Goes path members rest (Held.key key ∷ ts) old now standing
      → ((before : List (List ℕ)) → AreStanding before standing → AreStanding (before ++ key ∷ []) after)
      → AddsOfValue (path_below path key) ts now new left → Goes path members rest left old new after
  goes_on key ts left goes more_keys adds = by goes.others goes.left_is goes.keys_are goes.go_on
    where
      by : (others : json.Members) → Held.key key ∷ ts ≡ held_members others ++ rest → keys members ≡ goes.before ++ keys others
          → ((more : List RepeatedAt) → AreRepeatedBelow path others more → AreRepeatedBelow path members (goes.inner ++ more))
          → Goes path members rest left old new after
      by json.no_members is are go_on = absurd (cc)
      by (json.member k value ms) is are go_on =
          let same : key ≡ k = cc in
          let found = adds value (held_members ms ++ rest) (ap rest_of is ∙ append_assoc (held_tokens value) (held_members ms) rest) in
          let first = found.1.0 in
          record {
            others = ms;
            before = goes.before ++ key ∷ [];
            inner = goes.inner ++ first;
            left_is = found.0;
            keys_are =
                are ∙ ap (λ (name : List ℕ). goes.before ++ (name ∷ keys ms)) (sym same)
                ∙ sym (append_assoc goes.before (key ∷ []) (keys ms));
            stand = more_keys goes.before goes.stand;
            added = both_added old now new goes.inner first goes.added found.1.2;
            go_on = λ more below.
                subst (AreRepeatedBelow path members) (sym (append_assoc goes.inner first more))
                (go_on (first ++ more)
                (first, more, subst (λ (name : List ℕ). AreRepeatedIn (path_below path name) value first) same found.1.1, below, refl));
          }

  -- a token that is no key
  pub goes_to_end : (first : Held) (ts : List Held) → ((key : List ℕ) → first ≡ Held.key key → ⊥)
      → Goes path members rest (first ∷ ts) old now standing
      → ((before : List (List ℕ)) → AreStanding before standing → IsFoundAgain before path now new)
      → AddsRepeated (AreRepeatedInObject path members) old new rest ts
  goes_to_end first ts no_key goes again = by goes.others goes.left_is goes.keys_are goes.go_on
    where
      by : (others : json.Members) → first ∷ ts ≡ held_members others ++ rest → keys members ≡ goes.before ++ keys others
          → ((more : List RepeatedAt) → AreRepeatedBelow path others more → AreRepeatedBelow path members (goes.inner ++ more))
          → AddsRepeated (AreRepeatedInObject path members) old new rest ts
      by json.no_members is are go_on =
          let found = again goes.before goes.stand in
          let own = map (λ key. (path, key)) found.0 in
          let all : goes.before ≡ keys members = sym (are ∙ append-nil goes.before) in (
            ap rest_of is,
            (
              goes.inner ++ own,
              (
                goes.inner,
                found.0,
                subst (AreRepeatedBelow path members) (append-nil goes.inner) (go_on [] refl),
                subst (λ ks. AreRepeated ks found.0) all found.1,
                refl,
              ),
              both_added old now new goes.inner own goes.added found.2,
            ),
          )
      by (json.member k value ms) is are go_on = let same : first ≡ Held.key k = cc in absurd (no_key k same)

pub never_cut : (path : Path) (ms : json.Members) (rest : List Held) (old now : List RepeatedKey) (standing : StandingKeys)
    → Goes path ms rest [] old now standing → ⊥
never_cut path ms rest old now standing goes = no_members_left goes.others rest goes.left_is
