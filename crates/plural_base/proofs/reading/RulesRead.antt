-- Rules that a value stands for come from the texts in it.
use Rattle.std.proofs.Common.{◌≡◌, ℕ, List, ◌∷◌, Bool, true, false, cond, Option, Some, None, is_some, Result, Ok, Err, codes}
use Rattle.std.proofs.Common.{if◌then◌else◌, IfOk, inl, inr, refl, subst, Ordering, Less, Equal, Greater, is_eq, nat_cmp}
use Rattle.std.proofs.lemmas.Map.Text.{is_eq-slice_cmp}
use Rattle.std.specs.Cmp.Lexicographic.{slice_cmp}
use Rattle.std.specs.Option.{option_and_then}
use Rattle.std.specs.Ordering.{match_ordering}
use Rattle.plural_runtime.specs.PackedRelations.{PackedRelation}
use Rattle.plural_runtime.specs.RuleOfText.{RuleAnswer, TextGives, TextsGiveOneAnswer, rule_of_text}
use Rattle.plural_base.specs.declared.category.PluralCategory.{PluralCategory}
use Rattle.plural_base.specs.declared.category.PluralCategory.TheVariants.{Zero, One, Two, Few, Many}
use Rattle.plural_base.specs.declared.json.error.JsonError.{JsonError}
use Rattle.plural_base.specs.declared.json.error.JsonError.TheVariants.{Shape}
use Rattle.plural_base.specs.DocumentJson.{Rows, Document, found, rows_meant, map_meant, all_maps, document_meant, value_of_locale}
use Rattle.plural_base.specs.DocumentJson.{AreRulesAt, AreRangesAt}
use Rattle.plural_base.specs.declared.ranges.PluralRanges.{PluralRanges}
use Rattle.plural_base.specs.declared.five.Five.{Five}
use Rattle.plural_base.specs.FiveRules.{FiveRules, Paired}
use Rattle.plural_base.specs.RangesJson.{ranges_meant}
use Rattle.plural_base.specs.Json.{Stands, ◌>>=◌, all_five, GivesMeaning}
use Rattle.plural_base.specs.RulesJson.{naming_category, optional_meant, member_meant, rules_meant, texts_in}
use Rattle.plural_base.specs.RuleTexts.{AreRulesOf, IsRuleOf}
use Rattle.serde_json.specs.Data.{Data, null, boolean, number, string, array, object, Members, no_members, member}
use Rattle.serde_json.specs.Find.{get, get_member, as_object, as_str}

-- an `Ok` has one value
same_ok : {A : Type 0} (x y : A) → ◌≡◌ {A = Stands A} (Ok x) (Ok y) → x ≡ y
same_ok x y same = cc

-- ---- One rule

-- a rule, as contracts see it
abbrev pub Rule : Type 0
Rule = List PackedRelation

-- each text gives what the reader gives
abbrev pub AreGiven : Type 0
AreGiven = (text : List ℕ) → TextGives text (rule_of_text text)

-- by the law that a text gives what the reader gives
pub are_given : TextsGiveOneAnswer → AreGiven
are_given one_answer text = (one_answer text (rule_of_text text)).1 refl

-- the rule that a text stands for is the one that it gives
taken_text : (text : List ℕ) (answer : RuleAnswer) → TextGives text answer → (category : PluralCategory) (rule : Option Rule)
    → (naming_category (Some category) answer >>= λ r. Ok (Some r)) ≡ Ok rule → IsRuleOf (Some text) rule
taken_text text (Ok r) (inl given) category rule h = subst (λ x. IsRuleOf (Some text) x) (same_ok _ _ h) given
taken_text text (Ok r) (inr fault) category rule h = absurd (let e = fault.2 in cc)
taken_text text (Err e) given category rule h = absurd cc

-- what an optional rule stands for is that of its text
pub optional_taken : AreGiven → (category : PluralCategory) (value : Option Data) (rule : Option Rule)
    → optional_meant category value ≡ Ok rule → IsRuleOf (option_and_then as_str value) rule
optional_taken given category None rule h = subst (λ x. IsRuleOf None x) (same_ok _ _ h) tt
optional_taken given category (Some null) rule h = subst (λ x. IsRuleOf None x) (same_ok _ _ h) tt
optional_taken given category (Some (boolean b)) rule h = absurd cc
optional_taken given category (Some (number n)) rule h = absurd cc
optional_taken given category (Some (string s)) rule h = taken_text s (rule_of_text s) (given s) category rule h
optional_taken given category (Some (array items)) rule h = absurd cc
optional_taken given category (Some (object ms)) rule h = absurd cc

-- ---- Five rules

-- five rules that are all present
record AreFive {A : Type 0} (zero one two few many : Stands A) (all : Five A) : Type 0 where
  pub zero_is : zero ≡ Ok all.zero
  pub one_is : one ≡ Ok all.one
  pub two_is : two ≡ Ok all.two
  pub few_is : few ≡ Ok all.few
  pub many_is : many ≡ Ok all.many

-- five that stand for something together do so one by one
are_five : {A : Type 0} (zero one two few many : Stands A) (all : Five A) → all_five zero one two few many ≡ Ok all
    → AreFive zero one two few many all
are_five (Err e) one two few many all h = absurd cc
are_five (Ok z) (Err e) two few many all h = absurd cc
are_five (Ok z) (Ok o) (Err e) few many all h = absurd cc
are_five (Ok z) (Ok o) (Ok t) (Err e) many all h = absurd cc
are_five (Ok z) (Ok o) (Ok t) (Ok f) (Err e) all h = absurd cc
are_five (Ok z) (Ok o) (Ok t) (Ok f) (Ok m) all h =
    subst (AreFive (Ok z) (Ok o) (Ok t) (Ok f) (Ok m)) (same_ok _ _ h)
    (record { zero_is = refl; one_is = refl; two_is = refl; few_is = refl; many_is = refl })

-- five rules that are present come from the texts under the five names
taken_members : AreGiven → (value : Data) (rules : FiveRules)
    → AreFive (member_meant Zero value) (member_meant One value) (member_meant Two value) (member_meant Few value)
    (member_meant Many value) rules
    → AreRulesOf (texts_in value) rules
taken_members given value rules all =
    let zero = optional_taken given Zero _ rules.zero all.zero_is in
    let one = optional_taken given One _ rules.one all.one_is in
    let two = optional_taken given Two _ rules.two all.two_is in
    let few = optional_taken given Few _ rules.few all.few_is in
    let many = optional_taken given Many _ rules.many all.many_is in
    record { zero = zero; one = one; two = two; few = few; many = many }

-- only what passes a test is read
if_read : {A : Type 0} (b : Bool) (e : JsonError) (read : Stands A) (x : A) → (if b then read else Err e) ≡ Ok x → read ≡ Ok x
if_read true e read x h = h
if_read false e read x h = absurd cc

-- the rules that a value stands for come from the texts in it
pub rules_taken : AreGiven → (value : Data) (rules : FiveRules) → rules_meant value ≡ Ok rules → AreRulesOf (texts_in value) rules
rules_taken given value rules h =
    taken_members given value rules (are_five _ _ _ _ _ rules (if_read (is_some (as_object value)) Shape _ rules h))

-- ---- A map

module _ {A : Type 0} (meant : Data → Stands A) (Reads : Data → A → Type 0)
    (taken : (value : Data) (thing : A) → meant value ≡ Ok thing → Reads value thing) (locale : List ℕ) where
  -- under the key of a row is what is read from its value, under another key what the other rows
  -- have
  at_key : (o : Ordering) (value : Data) (thing : A) (there : Option Data) (there' : Option A) → Reads value thing
      → Paired Reads there there'
      → Paired Reads (match_ordering o there (Some value) there) (cond (is_eq o) (Some thing) there')
  at_key Less value thing there there' h g = g
  at_key Equal value thing there there' h g = h
  at_key Greater value thing there there' h g = g

  -- what is found for a locale is read from its member, in the first row or in the others
  row_read : (k : List ℕ) (value : Data) (ms : Members) (first : Stands A) (more : Stands (Rows A)) (rows : Rows A)
      → meant value ≡ first → ((rest : Rows A) → more ≡ Ok rest → Paired Reads (get_member locale ms) (found locale rest))
      → (first >>= λ x. (more >>= λ rest. Ok ((k, x) ∷ rest))) ≡ Ok rows
      → Paired Reads (get_member locale (member k value ms)) (found locale rows)
  row_read k value ms (Err e) more rows read others h = absurd cc
  row_read k value ms (Ok x) (Err e) rows read others h = absurd cc
  row_read k value ms (Ok x) (Ok rest) rows read others h =
      subst (λ r. Paired Reads (get_member locale (member k value ms)) (found locale r)) (same_ok _ _ h)
      (subst (λ b. Paired Reads (get_member locale (member k value ms)) (cond b (Some x) (found locale rest))) (is_eq-slice_cmp locale k)
      (at_key (slice_cmp nat_cmp locale k) value x _ _ (taken value x read) (others rest refl)))

  -- what is found for a locale is read from its member
  pub rows_read : (ms : Members) (rows : Rows A) → rows_meant meant ms ≡ Ok rows → Paired Reads (get_member locale ms) (found locale rows)
  rows_read no_members rows h = subst (λ r. Paired Reads None (found locale r)) (same_ok _ _ h) tt
  rows_read (member k value ms) rows h = row_read k value ms _ _ rows refl (λ rest read. rows_read ms rest read) h

  -- what a map has for a locale is read from the value under its key
  map_read : (value : Option Data) (rows : Rows A) → map_meant meant value ≡ Ok rows
      → Paired Reads (option_and_then (get locale) value) (found locale rows)
  map_read None rows h = subst (λ r. Paired Reads None (found locale r)) (same_ok _ _ h) tt
  map_read (Some null) rows h = subst (λ r. Paired Reads None (found locale r)) (same_ok _ _ h) tt
  map_read (Some (boolean b)) rows h = absurd cc
  map_read (Some (number n)) rows h = absurd cc
  map_read (Some (string s)) rows h = absurd cc
  map_read (Some (array items)) rows h = absurd cc
  map_read (Some (object ms)) rows h = rows_read ms rows h

-- ---- A document

-- three maps that are all present
record AreMaps (cardinal ordinal : Stands (Rows FiveRules)) (ranges : Stands (Rows PluralRanges)) (document : Document) : Type 0 where
  pub cardinal_is : cardinal ≡ Ok document.cardinal
  pub ordinal_is : ordinal ≡ Ok document.ordinal
  pub ranges_are : ranges ≡ Ok document.ranges

-- three maps that stand for something together do so one by one
are_maps : (cardinal ordinal : Stands (Rows FiveRules)) (ranges : Stands (Rows PluralRanges)) (document : Document)
    → all_maps cardinal ordinal ranges ≡ Ok document
    → AreMaps cardinal ordinal ranges document
are_maps (Err e) ordinal ranges document h = absurd cc
are_maps (Ok c) (Err e) ranges document h = absurd cc
are_maps (Ok c) (Ok o) (Err e) document h = absurd cc
are_maps (Ok c) (Ok o) (Ok r) document h =
    subst (AreMaps (Ok c) (Ok o) (Ok r)) (same_ok _ _ h) (record { cardinal_is = refl; ordinal_is = refl; ranges_are = refl })

-- each map of a document is read from the value under its key
module _ (given : AreGiven) (value : Data) where
  -- the maps of a document are those under its keys
  maps_of : (document : Document) → document_meant value ≡ Ok document
      → AreMaps (map_meant rules_meant (get (codes "cardinal") value)) (map_meant rules_meant (get (codes "ordinal") value))
      (map_meant ranges_meant (get (codes "ranges") value)) document
  maps_of document h = are_maps _ _ _ document (if_read (is_some (as_object value)) Shape _ document h)

  -- the rules for cardinal numbers of a locale come from the texts under it
  pub cardinal_read : (read : Result Document JsonError) → GivesMeaning (λ d. d) read (document_meant value)
      → IfOk read (λ d. (locale : List ℕ) → AreRulesAt (value_of_locale (codes "cardinal") locale value) (found locale d.cardinal))
  cardinal_read (Err e) h = tt
  cardinal_read (Ok document) h = λ locale.
      map_read rules_meant (λ v rules. AreRulesOf (texts_in v) rules) (rules_taken given) locale _ document.cardinal
      (maps_of document h).cardinal_is

  -- so are those for ordinal numbers
  pub ordinal_read : (read : Result Document JsonError) → GivesMeaning (λ d. d) read (document_meant value)
      → IfOk read (λ d. (locale : List ℕ) → AreRulesAt (value_of_locale (codes "ordinal") locale value) (found locale d.ordinal))
  ordinal_read (Err e) h = tt
  ordinal_read (Ok document) h = λ locale.
      map_read rules_meant (λ v rules. AreRulesOf (texts_in v) rules) (rules_taken given) locale _ document.ordinal
      (maps_of document h).ordinal_is

  -- the ranges of a locale are those that the value under it stands for
  pub ranges_read : (read : Result Document JsonError) → GivesMeaning (λ d. d) read (document_meant value)
      → IfOk read (λ d. (locale : List ℕ) → AreRangesAt (value_of_locale (codes "ranges") locale value) (found locale d.ranges))
  ranges_read (Err e) h = tt
  ranges_read (Ok document) h = λ locale.
      map_read ranges_meant (λ v ranges. ranges_meant v ≡ Ok ranges) (λ v ranges read. read) locale _ document.ranges
      (maps_of document h).ranges_are
