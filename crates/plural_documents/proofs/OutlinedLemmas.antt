-- What is kept of a value, by the tokens that are held of it.
use Rattle.std.proofs.Common.{◌≡◌, ℕ, List, ◌∷◌, ◌++◌, Bool, true, false, true≢false, Option, Some, None, Result, Ok, Err, String}
use Rattle.std.proofs.Common.{Global, string_bytes, refl, rules, sym, ap, ◌∙◌}
use Rattle.std.specs.Prelude.{OnOk, option_map, unwrap_or}
use Rattle.json.specs.Json as json
use Rattle.document_tokens.specs.HeldTokens.{Held, held_tokens}
use Rattle.plural_documents.specs.Inner.OutlineSteps.{AreItems, AreOutlined, IsOutlined, IsPassed, KeepsPart, members_by}
use Rattle.plural_documents.specs.Inner.OutlineSteps.{portion_by, put_portion}
use Rattle.plural_documents.specs.Outlines.{outline}
use Rattle.plural_documents.specs.declared.outline.Portion.{Portion}
use Rattle.plural_documents.specs.declared.outline.Portion.TheVariants as kept
use Rattle.plural_documents.proofs.HeldLemmas.{first_or, rest_of}
use Rattle.serde_json.specs.Data.{Data, Num, null, boolean, number, string, array, object, Items, Members, no_members, put}
use Rattle.serde_json.specs.Read.{number_of, of_items, of_members}
use Rattle.serde_json.specs.View.{number_view, view}
use Rattle.serde_json.specs.declared.number.Number.{Number}
use Rattle.serde_json.specs.declared.value.Value.{the_lemmas}
use Rattle.serde_json.specs.declared.value.Value as value

pub held_map : {A B : Type 0} (f : A → B) (o : Option A) (b : B) → option_map f o ≡ Some b → (a : A) × (o ≡ Some a) × (b ≡ f a)
held_map f None b is = absurd (cc)
held_map f (Some a) b is = (a, refl, sym (ap (λ o. unwrap_or o b) is))

pub some_is : {A : Type 0} (a b : A) → Some a ≡ Some b → a ≡ b
some_is a b is = ap (λ o. unwrap_or o a) is

-- what follows at a success
pub on_success : {A E P Q : Type 0} (r : Result A E) → (P → Q) → OnOk r P → OnOk r Q
on_success (Ok a) next is = next is
on_success (Err e) next is = is

-- a value may begin with the token
abbrev pub begins : Held → Bool
begins Held.begin_object = true
begins Held.end_object = false
begins Held.begin_array = true
begins Held.end_array = false
begins (Held.key k) = false
begins (Held.string s) = true
begins (Held.number s) = true
begins (Held.boolean b) = true
begins Held.null = true

value_begins : (j : json.Json) (after : List Held) → begins (first_or Held.end_array (held_tokens j ++ after)) ≡ true
value_begins json.null after = refl
value_begins (json.boolean b) after = refl
value_begins (json.number s) after = refl
value_begins (json.string s) after = refl
value_begins (json.array js) after = refl
value_begins (json.object ms) after = refl

module _ {S : Type 0} (keeps : S → List ℕ → Portion S) (sieve : Option S) where
  -- ---- Values of one token

  of_string : (by : Option S) (s : List ℕ) → outline keeps (portion_by by) (string s) ≡ Some (string s)
  of_string None s = refl
  of_string (Some sieve) s = refl

  of_boolean : (by : Option S) (b : Bool) → outline keeps (portion_by by) (boolean b) ≡ Some (boolean b)
  of_boolean None b = refl
  of_boolean (Some sieve) b = refl

  of_null : (by : Option S) → outline keeps (portion_by by) null ≡ Some null
  of_null None = refl
  of_null (Some sieve) = refl

  of_number : (by : Option S) (n : Num) → outline keeps (portion_by by) (number n) ≡ Some (number n)
  of_number None n = refl
  of_number (Some sieve) n = refl

  of_array : (by : Option S) (ds : Items) → outline keeps (portion_by by) (array ds) ≡ Some (array ds)
  of_array None ds = refl
  of_array (Some sieve) ds = refl

  of_object : (by : Option S) (ms : Members) → outline keeps (portion_by by) (object ms) ≡ Some (object (members_by keeps by ms))
  of_object None ms = refl
  of_object (Some sieve) ms = refl

  pub string_outlined : (s : List ℕ) (ts : List Held) → IsOutlined keeps sieve (Held.string s ∷ ts) (string s) ts
  string_outlined s ts json.null rest whole is read = absurd (cc)
  string_outlined s ts (json.boolean b) rest whole is read = absurd (cc)
  string_outlined s ts (json.number n) rest whole is read = absurd (cc)
  string_outlined s ts (json.string t) rest whole is read =
      let same : s ≡ t = cc in
      (ap rest_of is, ap (outline keeps (portion_by sieve)) (sym (some_is (string t) whole read)) ∙ rw (same) (of_string sieve t))
  string_outlined s ts (json.array js) rest whole is read = absurd (cc)
  string_outlined s ts (json.object ms) rest whole is read = absurd (cc)

  pub boolean_outlined : (b : Bool) (ts : List Held) → IsOutlined keeps sieve (Held.boolean b ∷ ts) (boolean b) ts
  boolean_outlined b ts json.null rest whole is read = absurd (cc)
  boolean_outlined b ts (json.boolean t) rest whole is read =
      let same : b ≡ t = cc in
      (ap rest_of is, ap (outline keeps (portion_by sieve)) (sym (some_is (boolean t) whole read)) ∙ rw (same) (of_boolean sieve t))
  boolean_outlined b ts (json.number n) rest whole is read = absurd (cc)
  boolean_outlined b ts (json.string t) rest whole is read = absurd (cc)
  boolean_outlined b ts (json.array js) rest whole is read = absurd (cc)
  boolean_outlined b ts (json.object ms) rest whole is read = absurd (cc)

  pub null_outlined : (ts : List Held) → IsOutlined keeps sieve (Held.null ∷ ts) null ts
  null_outlined ts json.null rest whole is read =
      (ap rest_of is, ap (outline keeps (portion_by sieve)) (sym (some_is null whole read)) ∙ of_null sieve)
  null_outlined ts (json.boolean t) rest whole is read = absurd (cc)
  null_outlined ts (json.number n) rest whole is read = absurd (cc)
  null_outlined ts (json.string t) rest whole is read = absurd (cc)
  null_outlined ts (json.array js) rest whole is read = absurd (cc)
  null_outlined ts (json.object ms) rest whole is read = absurd (cc)

  pub number_outlined : (n : Num) (ts : List Held) → IsOutlined keeps sieve (Held.number (Some n) ∷ ts) (number n) ts
  number_outlined n ts json.null rest whole is read = absurd (cc)
  number_outlined n ts (json.boolean t) rest whole is read = absurd (cc)
  number_outlined n ts (json.number t) rest whole is read =
      let same : Some n ≡ number_of t = cc in
      let found = held_map number (number_of t) whole read in
      let which : found.0 ≡ n = some_is found.0 n (sym found.1 ∙ sym same) in
      (ap rest_of is, ap (outline keeps (portion_by sieve)) (found.2 ∙ ap number which) ∙ of_number sieve n)
  number_outlined n ts (json.string t) rest whole is read = absurd (cc)
  number_outlined n ts (json.array js) rest whole is read = absurd (cc)
  number_outlined n ts (json.object ms) rest whole is read = absurd (cc)

  -- no value begins with this token
  pub none_outlined : (t : Held) (d : Data) (ts new : List Held) → begins t ≡ false → IsOutlined keeps sieve (t ∷ ts) d new
  none_outlined t d ts new other value rest whole is read =
      absurd (true≢false (sym (value_begins value rest) ∙ ap (λ us. begins (first_or Held.end_array us)) (sym is) ∙ other))

  -- ---- Arrays and objects

  pub array_outlined : (ts new : List Held) (found : Items) → AreItems ts found new
      → IsOutlined keeps sieve (Held.begin_array ∷ ts) (array found) new
  array_outlined ts new found are json.null rest whole is read = absurd (cc)
  array_outlined ts new found are (json.boolean t) rest whole is read = absurd (cc)
  array_outlined ts new found are (json.number n) rest whole is read = absurd (cc)
  array_outlined ts new found are (json.string t) rest whole is read = absurd (cc)
  array_outlined ts new found are (json.array js) rest whole is read =
      let some = held_map array (of_items js) whole read in
      let all = are js rest some.0 (ap rest_of is) some.1 in
      (all.0, ap (outline keeps (portion_by sieve)) (some.2 ∙ ap array all.1) ∙ of_array sieve found)
  array_outlined ts new found are (json.object ms) rest whole is read = absurd (cc)

  pub object_outlined : (ts new : List Held) (found : Members) → AreOutlined keeps sieve ts found new
      → IsOutlined keeps sieve (Held.begin_object ∷ ts) (object found) new
  object_outlined ts new found are json.null rest whole is read = absurd (cc)
  object_outlined ts new found are (json.boolean t) rest whole is read = absurd (cc)
  object_outlined ts new found are (json.number n) rest whole is read = absurd (cc)
  object_outlined ts new found are (json.string t) rest whole is read = absurd (cc)
  object_outlined ts new found are (json.array js) rest whole is read = absurd (cc)
  object_outlined ts new found are (json.object ms) rest whole is read =
      let some = held_map object (of_members ms no_members) whole read in
      let all = are ms rest some.0 (ap rest_of is) some.1 in
      (all.0, ap (outline keeps (portion_by sieve)) some.2 ∙ of_object sieve some.0 ∙ ap (λ o. Some (object o)) all.1)

  -- ---- Members

  -- what is kept of a value goes in under its key
  pub part_put : (key : List ℕ) (old new : List Held) (part : Data) (before after : Members) → IsOutlined keeps sieve old part new
      → after ≡ put key part before → KeepsPart keeps (portion_by sieve) key old before after new
  part_put key old new part before after outlined puts value rest whole is read =
      let kept = outlined value rest whole is read in
      (kept.0, puts ∙ ap (λ o. put_portion key o before) (sym kept.1))

  pub part_passed : (key : List ℕ) (old new : List Held) (before : Members) → IsPassed old new
      → KeepsPart keeps kept.Nothing key old before before new
  part_passed key old new before passed value rest whole is read = (passed value rest is, refl)

-- ---- What a value stands for

pub view_string : (s : String Global) → view (value.String s) ≡ string (string_bytes s)
view_string s = search (rules, the_lemmas)

pub view_bool : (b : Bool) → view (value.Bool b) ≡ boolean b
view_bool b = search (rules, the_lemmas)

pub view_number : (n : Number) → view (value.Number n) ≡ number (number_view n)
view_number n = search (rules, the_lemmas)

pub view_null : view value.Null ≡ null
view_null = search (rules, the_lemmas)
