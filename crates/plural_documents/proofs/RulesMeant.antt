-- What is right in a document of rules means something.
use Rattle.std.proofs.Common.{◌≡◌, ℕ, List, [], ◌∷◌, Bool, true, false, ◌||◌, Option, Some, None, is_some, Ok, Ordering, Less}
use Rattle.std.proofs.Common.{Equal, Greater, bytes_eq, codes, refl, sym, ap, subst, ◌∙◌, true≢false}
use Rattle.std.specs.List.{list_any}
use Rattle.std.specs.Ordering.{match_ordering}
use Rattle.std.specs.Prelude.{if◌then◌else◌}
use Rattle.std.proofs.lemmas.Slice.Eq.{bytes_eq-Decides}
use Rattle.plural_base.specs.Categories.{name_of, raw_category_of}
use Rattle.plural_base.specs.DocumentJson.{Rows, document_meant, map_meant, rows_meant}
use Rattle.plural_base.specs.FiveRules.{five}
use Rattle.plural_base.specs.Json.{Stands, ◌>>=◌, all_five, there_or}
use Rattle.plural_base.specs.declared.json.error.JsonError.TheVariants.{Shape}
use Rattle.plural_base.specs.Ranges.{Range, no_ranges, range_named, with_range}
use Rattle.plural_base.specs.RangesJson.{category_meant, members_meant, ranges_meant}
use Rattle.plural_base.specs.RulesJson.{member_meant, naming_category, optional_meant, rules_meant}
use Rattle.plural_base.specs.declared.category.PluralCategory.{PluralCategory}
use Rattle.plural_base.specs.declared.category.PluralCategory.TheVariants.{Zero, One, Two, Few, Many}
use Rattle.plural_base.specs.declared.five.Five.{Five}
use Rattle.plural_base.specs.declared.ranges.PluralRanges.{PluralRanges}
use Rattle.plural_documents.specs.Inner.OutlineSteps.{Holds}
use Rattle.document_tokens.specs.HeldTokens.{Held, held_tokens}
use Rattle.plural_documents.specs.Inner.RulesPlaces.{AreRight, IsFaultless, IsRight, IsRightBelow, IsRightPart, IsRightText}
use Rattle.plural_documents.specs.Inner.RulesPlaces.{place_below, is_any_read, is_float}
use Rattle.plural_documents.specs.Outlines.{HeldText}
use Rattle.plural_documents.specs.declared.rules_place.RulesPlace.{RulesPlace}
use Rattle.plural_documents.specs.declared.rules_place.RulesPlace.TheVariants.{Document, LocalesRules, Rules, Rule, LocalesRanges}
use Rattle.plural_documents.specs.declared.rules_place.RulesPlace.TheVariants.{Ranges, Categories, Category, Nowhere}
use Rattle.plural_documents.proofs.HeldOutlines.{held_same}
use Rattle.plural_documents.proofs.OutlinedLemmas.{some_is}
use Rattle.plural_documents.proofs.OutlineLemmas.{order, same_key}
use Rattle.plural_documents.proofs.RangeNames.{category_named}
use Rattle.plural_documents.proofs.RightTokens.{value_exact}
use Rattle.plural_documents.proofs.TextValues.{none_left}
use Rattle.serde_json.specs.Data.{Data, null, boolean, number, string, array, object, Members, no_members, member}
use Rattle.serde_json.specs.Find.{as_object, get_member}

-- a value means something
abbrev pub Means : {A : Type 0} → (Data → Stands A) → Data → Type 0
Means {A} meant value = (x : A) × (meant value ≡ Ok x)

-- what is found among members that are right
pub found_right : (place : RulesPlace) (k : List ℕ) (ms : Members) (value : Data) → AreRight place ms → get_member k ms ≡ Some value
    → IsRightBelow (place_below place k) value
found_right place k no_members value right is = absurd (cc)
found_right place k (member l old ms) value right is = by (order k l) refl is (found_right place k ms value right.1)
  where
    by : (o : Ordering) → order k l ≡ o → match_ordering o (get_member k ms) (Some old) (get_member k ms) ≡ Some value
        → (get_member k ms ≡ Some value → IsRightBelow (place_below place k) value) → IsRightBelow (place_below place k) value
    by Less same is further = further is
    by Equal same is further =
        subst (λ (v : Data). IsRightBelow (place_below place k) v) (some_is old value is)
        (subst (λ (key : List ℕ). IsRightBelow (place_below place key) old) (sym (same_key k l same)) right.0)
    by Greater same is further = further is

-- ---- Rules

rule_means : (c : PluralCategory) (value : Option Data) → ((v : Data) → value ≡ Some v → IsRight Rule v)
    → (rule : _) × (optional_meant c value ≡ Ok rule)
rule_means c None right = (None, refl)
rule_means c (Some null) right = (None, refl)
rule_means c (Some (boolean b)) right = absurd (right (boolean b) refl)
rule_means c (Some (number n)) right = absurd (right (number n) refl)
rule_means c (Some (string s)) right =
    let given = right (string s) refl in
    (Some given.0, ap (λ answer. naming_category (Some c) answer >>= λ rule. Ok (Some rule)) given.1)
rule_means c (Some (array items)) right = absurd (right (array items) refl)
rule_means c (Some (object ms)) right = absurd (true≢false (sym (right (object ms) refl).0))

member_means : (c : PluralCategory) (ms : Members) → AreRight Rules ms → place_below Rules (name_of c) ≡ Some Rule
    → (rule : _) × (member_meant c (object ms) ≡ Ok rule)
member_means c ms right named = rule_means c (get_member (name_of c) ms) (λ v is. found_right Rules (name_of c) ms v right is Rule named)

all_mean : {A : Type 0} (zero one two few many : Stands A) → ((x : A) × (zero ≡ Ok x)) → ((x : A) × (one ≡ Ok x)) → ((x : A) × (two ≡ Ok x))
    → ((x : A) × (few ≡ Ok x)) → ((x : A) × (many ≡ Ok x)) → (all : Five A) × (all_five zero one two few many ≡ Ok all)
all_mean zero one two few many (z, z_is) (o, o_is) (t, t_is) (f, f_is) (m, m_is) = (five z o t f m, rw (z_is, o_is, t_is, f_is, m_is) refl)

rules_mean : (value : Data) → IsRight Rules value → Means rules_meant value
rules_mean null right = absurd (true≢false (sym right))
rules_mean (boolean b) right = absurd right
rules_mean (number n) right = absurd right
rules_mean (string s) right = absurd right
rules_mean (array items) right = absurd right
rules_mean (object ms) right =
    all_mean (member_meant Zero (object ms)) (member_meant One (object ms)) (member_meant Two (object ms)) (member_meant Few (object ms))
    (member_meant Many (object ms))
    (member_means Zero ms right.1 refl) (member_means One ms right.1 refl) (member_means Two ms right.1 refl)
    (member_means Few ms right.1 refl)
    (member_means Many ms right.1 refl)

-- ---- Ranges

nowhere_right : (value : Data) → IsRight Nowhere value → ⊥
nowhere_right null right = true≢false (sym right)
nowhere_right (boolean b) right = right
nowhere_right (number n) right = right
nowhere_right (string s) right = right
nowhere_right (array items) right = right
nowhere_right (object ms) right = true≢false (sym right.0)

category_means : (value : Data) → IsRight Category value → Means category_meant value
category_means null right = absurd (true≢false (sym right))
category_means (boolean b) right = absurd right
category_means (number n) right = absurd right
category_means (string s) right = (raw_category_of right.0, rw (right.1, category_named right.0) refl)
category_means (array items) right = absurd right
category_means (object ms) right = absurd (true≢false (sym right.0))

categories_mean : (ranges : PluralRanges) (ms : Members) → AreRight Categories ms
    → (all : PluralRanges) × (members_meant ranges ms ≡ Ok all)
categories_mean ranges no_members right = (ranges, refl)
categories_mean ranges (member key value ms) right = by (range_named key) refl (λ others. categories_mean others ms right.1)
  where
    by : (o : Option Range) → range_named key ≡ o → ((others : PluralRanges) → (all : PluralRanges) × (members_meant others ms ≡ Ok all))
        → (all : PluralRanges) × (members_meant ranges (member key value ms) ≡ Ok all)
    by None is others = absurd (nowhere_right value (right.0 Nowhere (rw is refl)))
    by (Some range) is others =
        let first = category_means value (right.0 Category (rw is refl)) in
        let further = others (with_range ranges range.0 range.1 first.0) in
        (further.0, rw (is, first.1) further.1)

-- an object with a member that is read has the categories
abbrev ranges_key : List ℕ
ranges_key = codes "ranges"

any_found : (ms : Members) → is_any_read Ranges ms ≡ true → (value : Data) × (get_member ranges_key ms ≡ Some value)
any_found no_members any = absurd (true≢false (sym any))
any_found (member key value ms) any = by (bytes_eq key ranges_key) refl (any_found ms)
  where
    on : (o : Ordering) → order ranges_key key ≡ o → (v : Data) × (get_member ranges_key ms ≡ Some v)
        → (v : Data) × (match_ordering o (get_member ranges_key ms) (Some value) (get_member ranges_key ms) ≡ Some v)
    on Less is further = further
    on Equal is further = (value, refl)
    on Greater is further = further

    by : (b : Bool) → bytes_eq key ranges_key ≡ b → (is_any_read Ranges ms ≡ true → (v : Data) × (get_member ranges_key ms ≡ Some v))
        → (v : Data) × (get_member ranges_key (member key value ms) ≡ Some v)
    by true same others = (value, rw ((bytes_eq-Decides key ranges_key).0 same) refl)
    by false other others =
        on (order ranges_key key) refl (others
        (sym (ap (λ b. is_some (if b then Some Categories else None) || is_any_read Ranges ms) other) ∙ any))

table_means : (value : Data) → IsRight Categories value
    → (all : PluralRanges) × ((there_or Shape (as_object value) >>= members_meant no_ranges) ≡ Ok all)
table_means null right = absurd (true≢false (sym right))
table_means (boolean b) right = absurd right
table_means (number n) right = absurd right
table_means (string s) right = absurd right
table_means (array items) right = absurd right
table_means (object ms) right = categories_mean no_ranges ms right.1

ranges_mean : (value : Data) → IsRight Ranges value → Means ranges_meant value
ranges_mean null right = absurd (true≢false (sym right))
ranges_mean (boolean b) right = absurd right
ranges_mean (number n) right = absurd right
ranges_mean (string s) right = absurd right
ranges_mean (array items) right = absurd right
ranges_mean (object ms) right =
    let found = any_found ms right.0 in
    let table = table_means found.0 (found_right Ranges ranges_key ms found.0 right.1 found.1 Categories refl) in
    (table.0, rw (found.1) table.1)

-- ---- Maps

module _ {A : Type 0} (meant : Data → Stands A) (place inner : RulesPlace) (each : (key : List ℕ) → place_below place key ≡ Some inner)
    (means : (value : Data) → IsRight inner value → Means meant value) where
  rows_mean : (ms : Members) → AreRight place ms → (rows : Rows A) × (rows_meant meant ms ≡ Ok rows)
  rows_mean no_members right = ([], refl)
  rows_mean (member key value ms) right =
      let first = means value (right.0 inner (each key)) in
      let more = rows_mean ms right.1 in
      ((key, first.0) ∷ more.0, rw (first.1, more.1) refl)

  map_means : ((s : List ℕ) → IsRightText place s → ⊥) → (value : Option Data) → ((v : Data) → value ≡ Some v → IsRight place v)
      → (rows : Rows A) × (map_meant meant value ≡ Ok rows)
  map_means no_text None right = ([], refl)
  map_means no_text (Some null) right = ([], refl)
  map_means no_text (Some (boolean b)) right = absurd (right (boolean b) refl)
  map_means no_text (Some (number n)) right = absurd (right (number n) refl)
  map_means no_text (Some (string s)) right = absurd (no_text s (right (string s) refl))
  map_means no_text (Some (array items)) right = absurd (right (array items) refl)
  map_means no_text (Some (object ms)) right = rows_mean ms (right (object ms) refl).1

-- ---- A document

document_means : (value : Data) → IsRight Document value → Means document_meant value
document_means null right = absurd (true≢false (sym right))
document_means (boolean b) right = absurd right
document_means (number n) right = absurd right
document_means (string s) right = absurd right
document_means (array items) right = absurd right
document_means (object ms) right =
    let under =
    λ (key : List ℕ) (place : RulesPlace) (named : place_below Document key ≡ Some place) (v : Data) (is : get_member key ms ≡ Some v).
    found_right Document key ms v right.1 is place named in
    let rules = map_means rules_meant LocalesRules Rules (λ key. refl) rules_mean (λ s text. text) in
    let cardinal = rules (get_member (codes "cardinal") ms) (under (codes "cardinal") LocalesRules refl) in
    let ordinal = rules (get_member (codes "ordinal") ms) (under (codes "ordinal") LocalesRules refl) in
    let ranges = map_means ranges_meant LocalesRanges Ranges (λ key. refl) ranges_mean (λ s text. text)
    (get_member (codes "ranges") ms) (under (codes "ranges") LocalesRanges refl) in
    (record { cardinal = cardinal.0; ordinal = ordinal.0; ranges = ranges.0 }, rw (cardinal.1, ordinal.1, ranges.1) refl)

-- what is held has no fault
pub faultless : (text : HeldText) (ts new : List Held) → Holds text ts → list_any is_float ts ≡ false → IsRightPart (Some Document) ts new
    → IsFaultless text
faultless text ts new (held, is_held, (value, spelled, read)) exact right other is_other =
    let here = (right value [] held (spelled ∙ sym (none_left (held_tokens value))) read).1 Document refl in
    let maps = document_means held here in
    let none = value_exact value held (ap (list_any is_float) (sym spelled) ∙ exact) read in
    (maps.0, rw (← held_same text held other is_held is_other, none) maps.1)
