-- What is right in a document of rules, by the tokens that are held of it.
use Rattle.std.proofs.Common.{◌≡◌, ◌↔◌, ◌⊎◌, inl, inr, ℕ, List, [], ◌∷◌, ◌++◌, Bool, true, false, ◌||◌, Option, Some, None}
use Rattle.std.proofs.Common.{Result, Ok, Err, is_some, Ordering, Less, Equal, Greater, refl, sym, ap, subst, ◌∙◌, append_assoc}
use Rattle.std.specs.Bool.{OnTrue}
use Rattle.std.specs.List.{list_any}
use Rattle.std.specs.Prelude.{IfOk, option_map}
use Rattle.std.proofs.lemmas.Bool.{or_from, or_parts}
use Rattle.std.proofs.lemmas.List.Folds.{list_any-append}
use Rattle.json.specs.Json as json
use Rattle.document_tokens.specs.HeldTokens.{Held, held_items, held_members, held_tokens}
use Rattle.plural_documents.specs.Inner.OutlineSteps.{IsPassed}
use Rattle.plural_documents.specs.Inner.RulesPlaces.{AreRight, AreRightParts, TextGivesRule, IsRight, IsRightBelow, IsRightPart}
use Rattle.plural_documents.specs.Inner.RulesPlaces.{IsRightText, allows_null, place_below, is_any_read, is_float}
use Rattle.plural_base.specs.Categories.{name_of}
use Rattle.plural_base.specs.declared.category.PluralCategory.{PluralCategory}
use Rattle.plural_documents.specs.declared.rules_place.RulesPlace.{RulesPlace}
use Rattle.plural_documents.specs.declared.rules_place.RulesPlace.TheVariants.{Category}
use Rattle.plural_documents.proofs.HeldLemmas.{no_members_left, rest_of}
use Rattle.plural_documents.proofs.OutlinedLemmas.{held_map, some_is}
use Rattle.plural_documents.proofs.OutlineLemmas.{order, put_in, same_key}
use Rattle.plural_documents.proofs.WalkLemmas.{held_then}
use Rattle.plural_runtime.specs.RuleOfText.{RuleAnswer, TextGives, TextsGiveOneAnswer}
use Rattle.plural_runtime.specs.declared.error.RuleError.TheVariants as cause
use Rattle.serde_json.specs.Data.{Data, Num, null, boolean, number, string, array, object, Items, no_items, item, Members}
use Rattle.serde_json.specs.Data.{no_members, member, put}
use Rattle.serde_json.specs.Read.{number_of, of_items, of_json, of_members}
use Rattle.serde_json.specs.Written.{has_float, items_have_float, members_have_float}

-- what follows from a success that is true
pub on_right : {E P Q : Type 0} (r : Result Bool E) → (P → Q) → IfOk r (λ b. OnTrue b P) → IfOk r (λ b. OnTrue b Q)
on_right (Ok true) next is = next is
on_right (Ok false) next is = tt
on_right (Err e) next is = tt

-- ---- A member is put

either : (a b : Bool) → (a || b) ≡ (b || a)
either true true = refl
either true false = refl
either false true = refl
either false false = refl

again : (a b : Bool) → (a || b) ≡ ((a || b) || a)
again true b = refl
again false true = refl
again false false = refl

grouped : (a b c : Bool) → (a || (b || c)) ≡ ((a || b) || c)
grouped true b c = refl
grouped false b c = refl

module _ (place : RulesPlace) (k : List ℕ) (value : Data) where
  any_read_put : (ms : Members) → is_any_read place (put k value ms) ≡ (is_any_read place ms || is_some (place_below place k))
  any_read_put no_members = either (is_some (place_below place k)) false
  any_read_put (member l old ms) = by (order k l) refl (any_read_put ms)
    where
      by : (o : Ordering) → order k l ≡ o → is_any_read place (put k value ms) ≡ (is_any_read place ms || is_some (place_below place k))
          → is_any_read place (put_in k value l old ms o) ≡ (is_any_read place (member l old ms) || is_some (place_below place k))
      by Less is further = either (is_some (place_below place k)) (is_any_read place (member l old ms))
      by Equal is further =
          subst (λ (key : List ℕ). is_any_read place (member l value ms)
          ≡ (is_any_read place (member l old ms) || is_some (place_below place key)))
          (sym (same_key k l is)) (again (is_some (place_below place l)) (is_any_read place ms))
      by Greater is further =
          ap (λ b. is_some (place_below place l) || b) further
          ∙ grouped (is_some (place_below place l)) (is_any_read place ms) (is_some (place_below place k))

  right_put : (ms : Members) → AreRight place ms → IsRightBelow (place_below place k) value → AreRight place (put k value ms)
  right_put no_members right here = (here, tt)
  right_put (member l old ms) right here = by (order k l) refl (right_put ms right.1 here)
    where
      by : (o : Ordering) → order k l ≡ o → AreRight place (put k value ms) → AreRight place (put_in k value l old ms o)
      by Less is further = (here, right)
      by Equal is further = (subst (λ (key : List ℕ). IsRightBelow (place_below place key) value) (same_key k l is) here, right.1)
      by Greater is further = (right.0, further)

-- ---- Members

-- the members that are left go in among those before, which are right
abbrev pub RightGoOn : RulesPlace → List Held → List Held → Members → Bool → Type 0
RightGoOn place ts rest whole any =
    (others : json.Members) × (before : Members) × (ts ≡ held_members others ++ rest) × (of_members others before ≡ Some whole)
    × AreRight place before × (is_any_read place before ≡ any)

pub right_added : (place : RulesPlace) (k : List ℕ) (ts new rest : List Held) (whole : Members) (any now : Bool)
    → RightGoOn place (Held.key k ∷ ts) rest whole any → IsRightPart (place_below place k) ts new → (any || is_some (place_below place k)) ≡ now
    → RightGoOn place new rest whole now
right_added place k ts new rest whole any now (json.no_members, before, is, read, right, so_far) passes then = absurd (cc)
right_added place k ts new rest whole any now (json.member l j ms, before, is, read, right, so_far) passes then =
    let same : k ≡ l = cc in
    let first = held_then (of_json j) (λ d. of_members ms (put l d before)) whole read in
    let passed =
    passes j (held_members ms ++ rest) first.0 (ap rest_of is ∙ append_assoc (held_tokens j) (held_members ms) rest) first.1 in (
      ms,
      put k first.0 before,
      passed.0,
      ap (λ m. of_members ms (put m first.0 before)) same ∙ first.2,
      right_put place k first.0 before right passed.1,
      any_read_put place k first.0 before ∙ ap (λ b. b || is_some (place_below place k)) so_far ∙ then,
    )

pub right_ended : (place : RulesPlace) (t : Held) (ts rest : List Held) (whole : Members) (any : Bool) → ((k : List ℕ) → t ≡ Held.key k → ⊥)
    → RightGoOn place (t ∷ ts) rest whole any → (ts ≡ rest) × (is_any_read place whole ≡ any) × AreRight place whole
right_ended place t ts rest whole any other (json.no_members, before, is, read, right, so_far) =
    let same : before ≡ whole = some_is before whole read in
    (ap rest_of is, ap (is_any_read place) (sym same) ∙ so_far, subst (λ (ms : Members). AreRight place ms) same right)
right_ended place t ts rest whole any other (json.member l j ms, before, is, read, right, so_far) =
    let same : t ≡ Held.key l = cc in absurd (other l same)

pub right_not_cut : (place : RulesPlace) (rest : List Held) (whole : Members) (any : Bool) → RightGoOn place [] rest whole any → ⊥
right_not_cut place rest whole any go_on = no_members_left go_on.0 rest go_on.2

-- ---- Values

right_here : (place : RulesPlace) (value whole : Data) → value ≡ whole → IsRight place value → IsRightBelow (Some place) whole
right_here place value whole is right inner same =
    subst (λ (p : RulesPlace). IsRight p whole) (some_is place inner same) (subst (λ (d : Data). IsRight place d) is right)

module _ (place : RulesPlace) (ts : List Held) where
  pub text_right : (s : List ℕ) → IsRightText place s → IsRightPart (Some place) (Held.string s ∷ ts) ts
  text_right s right json.null rest whole is read = absurd (cc)
  text_right s right (json.boolean b) rest whole is read = absurd (cc)
  text_right s right (json.number n) rest whole is read = absurd (cc)
  text_right s right (json.string t) rest whole is read =
      let same : s ≡ t = cc in (
        ap rest_of is,
        right_here place (string t) whole (some_is (string t) whole read)
            (subst (λ (u : List ℕ). IsRightText place u) same right),
      )
  text_right s right (json.array js) rest whole is read = absurd (cc)
  text_right s right (json.object ms) rest whole is read = absurd (cc)

  pub null_right : allows_null place ≡ true → IsRightPart (Some place) (Held.null ∷ ts) ts
  null_right right json.null rest whole is read = (ap rest_of is, right_here place null whole (some_is null whole read) right)
  null_right right (json.boolean b) rest whole is read = absurd (cc)
  null_right right (json.number n) rest whole is read = absurd (cc)
  null_right right (json.string t) rest whole is read = absurd (cc)
  null_right right (json.array js) rest whole is read = absurd (cc)
  null_right right (json.object ms) rest whole is read = absurd (cc)

  pub object_right : (new : List Held) → AreRightParts place ts new → IsRightPart (Some place) (Held.begin_object ∷ ts) new
  object_right new are json.null rest whole is read = absurd (cc)
  object_right new are (json.boolean b) rest whole is read = absurd (cc)
  object_right new are (json.number n) rest whole is read = absurd (cc)
  object_right new are (json.string t) rest whole is read = absurd (cc)
  object_right new are (json.array js) rest whole is read = absurd (cc)
  object_right new are (json.object ms) rest whole is read =
      let some = held_map object (of_members ms no_members) whole read in
      let all = are ms rest some.0 (ap rest_of is) some.1 in
      (all.0, right_here place (object some.0) whole (sym some.2) all.1)

-- a value that isn't read
pub passed_right : (old new : List Held) → IsPassed old new → IsRightPart None old new
passed_right old new passed value rest whole is read = (passed value rest is, λ inner same. absurd (cc))

-- what a text gives, as far as memory lasts
pub rule_given : TextsGiveOneAnswer → (text : List ℕ) (answer : RuleAnswer) → TextGives text answer ⊎ (answer ≡ Err cause.Memory)
    → (rule : _) → answer ≡ Ok rule → TextGivesRule text
rule_given one text answer (inl gives) rule is = (rule, sym ((one text answer).0 gives) ∙ is)
rule_given one text answer (inr memory) rule is = absurd (cc)

-- what names a category
pub name_right : (text : List ℕ) (category : Option PluralCategory)
    → ((c : PluralCategory) → (category ≡ Some c) ↔ (text ≡ name_of c)) → OnTrue (is_some category) (IsRightText Category text)
name_right text None named = tt
name_right text (Some c) named = (c, (named c).0 refl)

-- ---- Floats

exact_put : (k : List ℕ) (value : Data) (ms : Members) → has_float value ≡ false → members_have_float ms ≡ false
    → members_have_float (put k value ms) ≡ false
exact_put k value no_members exact all = or_from (has_float value) false exact refl
exact_put k value (member l old ms) exact all =
    by (order k l) (exact_put k value ms exact (or_parts (has_float old) (members_have_float ms) all).1)
  where
    parts : (has_float old ≡ false) × (members_have_float ms ≡ false)
    parts = or_parts (has_float old) (members_have_float ms) all

    by : (o : Ordering) → members_have_float (put k value ms) ≡ false → members_have_float (put_in k value l old ms o) ≡ false
    by Less further = or_from (has_float value) (has_float old || members_have_float ms) exact all
    by Equal further = or_from (has_float value) (members_have_float ms) exact parts.1
    by Greater further = or_from (has_float old) (members_have_float (put k value ms)) parts.0 further

-- of two lists
apart : (one other : List Held) → list_any is_float (one ++ other) ≡ false
    → (list_any is_float one ≡ false) × (list_any is_float other ≡ false)
apart one other none = or_parts (list_any is_float one) (list_any is_float other) (sym (list_any-append is_float one other) ∙ none)

number_exact : (o : Option Num) (d : Data) → list_any is_float (Held.number o ∷ []) ≡ false → option_map number o ≡ Some d
    → has_float d ≡ false
number_exact None d none read = absurd (cc)
number_exact (Some n) d none read =
    subst (λ (e : Data). has_float e ≡ false) (some_is (number n) d read) (or_parts (is_float (Held.number (Some n))) false none).0

-- where no token is a float the value has none
mutual
  pub value_exact : (j : json.Json) (d : Data) → list_any is_float (held_tokens j) ≡ false → of_json j ≡ Some d → has_float d ≡ false
  value_exact json.null d none read = subst (λ (e : Data). has_float e ≡ false) (some_is null d read) refl
  value_exact (json.boolean b) d none read = subst (λ (e : Data). has_float e ≡ false) (some_is (boolean b) d read) refl
  value_exact (json.number s) d none read = number_exact (number_of s) d none read
  value_exact (json.string s) d none read = subst (λ (e : Data). has_float e ≡ false) (some_is (string s) d read) refl
  value_exact (json.array js) d none read =
      let some = held_map array (of_items js) d read in rw (some.2) (items_exact js some.0 none some.1)
  value_exact (json.object ms) d none read =
      let some = held_map object (of_members ms no_members) d read in rw (some.2) (members_exact ms no_members some.0 refl none some.1)

  items_exact : (js : json.Items) (ds : Items) → list_any is_float (held_items js) ≡ false → of_items js ≡ Some ds
      → items_have_float ds ≡ false
  items_exact json.no_items ds none read = subst (λ (es : Items). items_have_float es ≡ false) (some_is no_items ds read) refl
  items_exact (json.item j js) ds none read =
      let first = held_then (of_json j) (λ d. option_map (item d) (of_items js)) ds read in
      let after = held_map (item first.0) (of_items js) ds first.2 in
      let both = apart (held_tokens j) (held_items js) none in
      rw (after.2)
      (or_from (has_float first.0) (items_have_float after.0) (value_exact j first.0 both.0 first.1)
      (items_exact js after.0 both.1 after.1))

  members_exact : (ms : json.Members) (before whole : Members) → members_have_float before ≡ false
      → list_any is_float (held_members ms) ≡ false
      → of_members ms before ≡ Some whole → members_have_float whole ≡ false
  members_exact json.no_members before whole exact none read =
      subst (λ (es : Members). members_have_float es ≡ false) (some_is before whole read) exact
  members_exact (json.member k j ms) before whole exact none read =
      let first = held_then (of_json j) (λ d. of_members ms (put k d before)) whole read in
      let both = apart (held_tokens j) (held_members ms) none in
      members_exact ms (put k first.0 before) whole (exact_put k first.0 before (value_exact j first.0 both.0 first.1) exact) both.1 first.2
