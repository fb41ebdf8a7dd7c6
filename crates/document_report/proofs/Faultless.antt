-- A document without a fault means maps: its texts give rules, and its entries ranges.
use Rattle.std.proofs.Common.{◌≡◌, ℕ, suc, ◌+◌, ◌==◌, List, [], ◌∷◌, ◌++◌, length, Bool, true, false, cond, Option, Some, None, is_some, bytes_eq}
use Rattle.std.proofs.Common.{Ok, Err, if◌then◌else◌, inl, inr, refl, sym, ap, subst, ◌∙◌, arith}
use Rattle.std.proofs.Common.{Ordering, Less, Equal, Greater, is_eq, nat_cmp}
use Rattle.std.proofs.lemmas.Map.Text.{is_eq-slice_cmp}
use Rattle.std.proofs.lemmas.Slice.Eq.{bytes_eq-Decides}
use Rattle.std.specs.Prelude.{IsTrue}
use Rattle.std.specs.Cmp.Lexicographic.{slice_cmp}
use Rattle.std.specs.Option.{option_and_then}
use Rattle.std.specs.Ordering.{match_ordering}
use Rattle.serde_json.specs.Data.{Data, null, boolean, number, string, array, object, Members, no_members, member}
use Rattle.serde_json.specs.Find.{get, get_member, as_object, as_str}
use Rattle.serde_json.specs.Written.{has_float}
use Rattle.icu_plurals.specs.declared.PluralCategory.{PluralCategory}
use Rattle.icu_plurals.specs.declared.PluralCategory.TheVariants.{Zero, One, Two, Few, Many, Other}
use Rattle.icu_plurals.specs.declared.JsonError.TheVariants.{Shape}
use Rattle.icu_plurals.specs.declared.provider.RawPluralCategory.{RawPluralCategory}
use Rattle.icu_plurals.specs.declared.provider.RawPluralCategory.TheVariants as raw
use Rattle.icu_plurals.specs.declared.provider.PluralRanges.{PluralRanges}
use Rattle.icu_plurals.specs.Categories.{name_of, place_of}
use Rattle.icu_plurals.specs.DocumentJson.{Document, Rows, document_of_json, found, map_meant, rows_meant, value_of_locale}
use Rattle.icu_plurals.specs.FiveRules.{five, FiveRules}
use Rattle.icu_plurals.specs.Json.{Stands, ◌>>=◌, all_five, there_or}
use Rattle.icu_plurals.specs.PackedRelations.{PackedRelation}
use Rattle.icu_plurals.specs.Ranges.{Range, raw_category_named, no_ranges, range_named, range_text, with_range}
use Rattle.icu_plurals.specs.RangesJson.{category_meant, members_meant, ranges_meant}
use Rattle.icu_plurals.specs.RuleOfText.{TextsGiveOneAnswer, rule_of_text}
use Rattle.icu_plurals.specs.RulesJson.{member_meant, naming_category, optional_meant, rules_meant, text_under}
use Rattle.plural_checker.specs.Findings.{Findings}
use Rattle.plural_checker.specs.LanguageTexts.{SixTexts}
use Rattle.plural_checker.specs.TextChecks.{IsFoundInCategoryText}
use Rattle.plural_checker.specs.TextChecks as text
use Rattle.plural_checker.specs.declared.Fault.{Fault}
use Rattle.document_report.specs.CheckedDocument.{document_formed, has_part_form, locales_formed, members_at, members_or_none, part_formed}
use Rattle.document_report.specs.CheckedDocument.{parts_formed, table_in}
use Rattle.document_report.specs.DocumentReport.{IsFoundInDocument, IsFoundInEntry, IsFoundInRanges, IsFoundInRules, all_texts_in}
use Rattle.document_report.specs.DocumentReport.{faults_of, found_by_check, found_of_count, found_of_key, found_of_other, found_of_rules, found_under}
use Rattle.document_report.specs.DocumentReport.{found_under_all, has_locale, text_order, texts_at}
use Rattle.document_report.specs.FaultlessDocuments.{FaultlessDocumentsAreTaken, HasAll}
use Rattle.document_report.specs.DocumentPlaces.{LocalePlace}
use Rattle.document_report.specs.FoundInDocuments.{Found, IsFoundInDocumentMembers}
use Rattle.plural_fallback.specs.LocalesJson.{part_name}
use Rattle.document_report.specs.declared.error.CheckError.{CheckError}
use Rattle.plural_fallback.specs.declared.locales.Part.{Part}
use Rattle.plural_fallback.specs.declared.locales.Part.TheVariants.{Cardinal, Ordinal, Ranges}
use Rattle.document_report.proofs.FormedParts.{three_formed}

-- ---- Nothing is found in a whole if nothing is found in its parts

no_first : (a b : ℕ) → a + b ≡ 0 → a ≡ 0
no_first a b h = omega arith

no_second : (a b : ℕ) → a + b ≡ 0 → b ≡ 0
no_second a b h = omega arith

-- it holds of each member
abbrev Each : (List ℕ → Data → Type 0) → Members → Type 0
Each Has no_members = Unit {0}
Each Has (member key value members) = Has key value × Each Has members

each_faultless : (Is : List ℕ → Data → Found → Type 0) (members : Members) (all : Found) → IsFoundInDocumentMembers Is members all
    → all.faults ≡ 0 → Each (λ key value. (one : Found) × Is key value one × (one.faults ≡ 0)) members
each_faultless Is no_members all h none = tt
each_faultless Is (member key value members) all (first, rest, is, others, whole) none =
    let sum : first.faults + rest.faults ≡ 0 = sym (ap (λ (f : Found). f.faults) whole) ∙ none in (
      (first, is, no_first first.faults rest.faults sum),
      each_faultless Is members rest others (no_second first.faults rest.faults sum),
    )

-- both hold of each member
each_of_both : (P Q R : List ℕ → Data → Type 0) → ((key : List ℕ) (value : Data) → P key value → Q key value → R key value)
    → (members : Members) → Each P members → Each Q members
    → Each R members
each_of_both P Q R both no_members p q = tt
each_of_both P Q R both (member key value members) p q = (both key value p.0 q.0, each_of_both P Q R both members p.1 q.1)

-- ---- Texts without a fault

no_first_fault : (xs ys : List Fault) → xs ++ ys ≡ [] → xs ≡ []
no_first_fault [] ys h = refl
no_first_fault (x ∷ xs) ys h = absurd cc

no_second_fault : (xs ys : List Fault) → xs ++ ys ≡ [] → ys ≡ []
no_second_fault [] ys h = h
no_second_fault (x ∷ xs) ys h = absurd cc

-- nothing is found in the text of the category
abbrev IsFaultless : Option FiveRules → Data → PluralCategory → Type 0
IsFaultless rules value category =
    (one : Findings) × text.IsFoundIn rules category (text_under category value) one × (one.faults ≡ [])

-- nothing is found in any of the five texts
abbrev FiveFaultless : Option FiveRules → Data → Type 0
FiveFaultless rules value =
    IsFaultless rules value Zero × IsFaultless rules value One × IsFaultless rules value Two × IsFaultless rules value Few
    × IsFaultless rules value Many

five_faultless : (rules : Option FiveRules) (value : Data) (all : Findings) → text.IsFoundInSix rules (all_texts_in value) all
    → all.faults ≡ [] → FiveFaultless rules value
five_faultless rules value all
    (z, after_z, in_z, (o, after_o, in_o, (t, after_t, in_t, (f, after_f, in_f, (m, x, in_m, in_x, is_m), is_f), is_t), is_o), is_z) none =
    let none_z = sym (ap (λ (found : Findings). found.faults) is_z) ∙ none in
    let none_o = sym (ap (λ (found : Findings). found.faults) is_o) ∙ no_second_fault z.faults after_z.faults none_z in
    let none_t = sym (ap (λ (found : Findings). found.faults) is_t) ∙ no_second_fault o.faults after_o.faults none_o in
    let none_f = sym (ap (λ (found : Findings). found.faults) is_f) ∙ no_second_fault t.faults after_t.faults none_t in
    let none_m = sym (ap (λ (found : Findings). found.faults) is_m) ∙ no_second_fault f.faults after_f.faults none_f in (
      (z, in_z, no_first_fault z.faults after_z.faults none_z),
      (o, in_o, no_first_fault o.faults after_o.faults none_o),
      (t, in_t, no_first_fault t.faults after_t.faults none_t),
      (f, in_f, no_first_fault f.faults after_f.faults none_f),
      (m, in_m, no_first_fault m.faults x.faults none_m),
    )

-- ---- The faults of six texts

place_itself : (category : PluralCategory) → (place_of category == place_of category) ≡ true
place_itself Zero = refl
place_itself One = refl
place_itself Two = refl
place_itself Few = refl
place_itself Many = refl
place_itself Other = refl

-- if no category has a fault, there is none
none_left : (faults : List Fault) → ((category : PluralCategory) → length (faults_of category faults) ≡ 0) → faults ≡ []
none_left [] h = refl
none_left (fault ∷ faults) h = absurd (no_suc (length (faults_of fault.category faults)) (counted ∙ h fault.category))
  where
    no_suc : (n : ℕ) → suc n ≡ 0 → ⊥
    no_suc n e = omega arith

    counted : suc (length (faults_of fault.category faults)) ≡ length (faults_of fault.category (fault ∷ faults))
    counted = rw (place_itself fault.category) refl

-- it holds of each category
abbrev EachOf : (PluralCategory → Type 0) → List PluralCategory → Type 0
EachOf Has [] = Unit {0}
EachOf Has (category ∷ categories) = Has category × EachOf Has categories

module _ (place : LocalePlace) (value : Data) (faults : List Fault) where
  -- the value is absent, null or a text, and the text has no fault
  abbrev IsClear : PluralCategory → Type 0
  IsClear category =
      ((found_under place category (get (name_of category) value)).faults ≡ 0) × (length (faults_of category faults) ≡ 0)

  each_clear : (categories : List PluralCategory) → (found_under_all place value faults categories).faults ≡ 0
      → EachOf IsClear categories
  each_clear [] h = tt
  each_clear (category ∷ categories) h =
      let under = (found_under place category (get (name_of category) value)).faults in
      let told = length (faults_of category faults) in
      let rest = (found_under_all place value faults categories).faults in
      let later : told + rest ≡ 0 = no_second under (told + rest) h in
      ((no_first under (told + rest) h, no_first told rest later), each_clear categories (no_second told rest later))

  all_clear : (found_under_all place value faults text_order).faults ≡ 0 → (category : PluralCategory) → IsClear category
  all_clear h Zero = (each_clear text_order h).0
  all_clear h One = (each_clear text_order h).1.0
  all_clear h Two = (each_clear text_order h).1.1.0
  all_clear h Few = (each_clear text_order h).1.1.1.0
  all_clear h Many = (each_clear text_order h).1.1.1.1.0
  all_clear h Other = (each_clear text_order h).1.1.1.1.1.0

-- ---- The rules of a locale

-- it means something
abbrev Means : {A : Type 0} → Stands A → Type 0
Means {A} meant = (x : A) × (meant ≡ Ok x)

module _ (one : TextsGiveOneAnswer) where
  -- a text without a fault gives a rule
  text_gives : (rules : Option FiveRules) (category : PluralCategory) (bytes : List ℕ) (all : Findings)
      → IsFoundInCategoryText rules category bytes all → all.faults ≡ []
      → (rule : List PackedRelation) × (rule_of_text bytes ≡ Ok rule)
  text_gives rules category bytes all (inl (long, is)) none = absurd (let e = ap (λ (f : Findings). f.faults) is in cc)
  text_gives rules category bytes all (inr (short, inl (kind, byte, read, faulty, is))) none =
      absurd (let e = ap (λ (f : Findings). f.faults) is in cc)
  text_gives rules category bytes all (inr (short, inr (rule, (reads, (packed, given)), h))) none =
      (packed, sym ((one bytes (Ok packed)).0 given))

  -- the rule under a category's name is absent or that of its text
  optional_means : (place : LocalePlace) (rules : Option FiveRules) (category : PluralCategory) (value : Option Data)
      (all : Findings) → (found_under place category value).faults ≡ 0
      → text.IsFoundIn rules category (option_and_then as_str value) all → all.faults ≡ []
      → Means (optional_meant category value)
  optional_means place rules category None all clear is none = (None, refl)
  optional_means place rules category (Some null) all clear is none = (None, refl)
  optional_means place rules category (Some (boolean b)) all clear is none = absurd (omega arith)
  optional_means place rules category (Some (number n)) all clear is none = absurd (omega arith)
  optional_means place rules category (Some (string s)) all clear is none =
      let given = text_gives rules category s all is none in
      (Some given.0, ap (λ answer. naming_category (Some category) answer >>= λ rule. Ok (Some rule)) given.1)
  optional_means place rules category (Some (array items)) all clear is none = absurd (omega arith)
  optional_means place rules category (Some (object fields)) all clear is none = absurd (omega arith)

  member_means : (place : LocalePlace) (rules : Option FiveRules) (value : Data) (category : PluralCategory)
      → (found_under place category (get (name_of category) value)).faults ≡ 0 → IsFaultless rules value category
      → Means (member_meant category value)
  member_means place rules value category clear (all, is, none) =
      optional_means place rules category (get (name_of category) value) all clear is none

  -- five that mean something do so together
  five_mean : {A : Type 0} (zero one two few many : Stands A) → Means zero → Means one → Means two → Means few → Means many
      → Means (all_five zero one two few many)
  five_mean zero one two few many (z, zero_is) (o, one_is) (t, two_is) (f, few_is) (m, many_is) =
      (five z o t f m, rw zero_is (rw one_is (rw two_is (rw few_is (rw many_is refl)))))

  -- rules without a fault mean five rules
  rules_mean : (part : Part) (locale : List ℕ) (value : Data) (all : Found) → IsFoundInRules part locale value all
      → all.faults ≡ 0 → is_some (as_object value) ≡ true
      → Means (rules_meant value)
  rules_mean part locale value all (checked, others, (rules, read, (findings, six, (faults_are, count))), members, whole) none formed =
      let place : LocalePlace = record { part = part; locale = locale } in
      let sum = sym (ap (λ (f : Found). f.faults) whole) ∙ none in
      let key = (found_of_key place).faults in
      let other = (found_of_other place value).faults in
      let by_check = (found_by_check place value checked).faults in
      let checks : by_check + others.faults ≡ 0 =
      no_second other (by_check + others.faults) (no_second key (other + (by_check + others.faults)) sum) in
      let under = (found_under_all place value checked.faults text_order).faults in
      let clear = all_clear place value checked.faults (no_first under 0 (no_first by_check others.faults checks)) in
      let no_fault : findings.faults ≡ [] = sym faults_are ∙ none_left checked.faults (λ category. (clear category).1) in
      let free = five_faultless rules value findings six no_fault in
      let zero = member_means place rules value Zero (clear Zero).0 free.0 in
      let one' = member_means place rules value One (clear One).0 free.1 in
      let two = member_means place rules value Two (clear Two).0 free.2 in
      let few = member_means place rules value Few (clear Few).0 free.3 in
      let many = member_means place rules value Many (clear Many).0 free.4 in
      let all_mean = five_mean _ _ _ _ _ zero one' two few many in
      (all_mean.0, of_object (is_some (as_object value)) _ all_mean.0 formed all_mean.1)
    where
      of_object : (b : Bool) (read : Stands FiveRules) (rules : FiveRules) → b ≡ true → read ≡ Ok rules
          → (if b then read else Err Shape) ≡ Ok rules
      of_object true read rules is h = h
      of_object false read rules is h = absurd cc

-- ---- The ranges of a locale

-- each pair is named by its text
range_named_as : (first last : RawPluralCategory) → range_named (range_text first last) ≡ Some (first, last)
unfolding range_named
range_named_as raw.Other raw.Other = refl
range_named_as raw.Other raw.Zero = refl
range_named_as raw.Other raw.One = refl
range_named_as raw.Other raw.Two = refl
range_named_as raw.Other raw.Few = refl
range_named_as raw.Other raw.Many = refl
range_named_as raw.Zero raw.Other = refl
range_named_as raw.Zero raw.Zero = refl
range_named_as raw.Zero raw.One = refl
range_named_as raw.Zero raw.Two = refl
range_named_as raw.Zero raw.Few = refl
range_named_as raw.Zero raw.Many = refl
range_named_as raw.One raw.Other = refl
range_named_as raw.One raw.Zero = refl
range_named_as raw.One raw.One = refl
range_named_as raw.One raw.Two = refl
range_named_as raw.One raw.Few = refl
range_named_as raw.One raw.Many = refl
range_named_as raw.Two raw.Other = refl
range_named_as raw.Two raw.Zero = refl
range_named_as raw.Two raw.One = refl
range_named_as raw.Two raw.Two = refl
range_named_as raw.Two raw.Few = refl
range_named_as raw.Two raw.Many = refl
range_named_as raw.Few raw.Other = refl
range_named_as raw.Few raw.Zero = refl
range_named_as raw.Few raw.One = refl
range_named_as raw.Few raw.Two = refl
range_named_as raw.Few raw.Few = refl
range_named_as raw.Few raw.Many = refl
range_named_as raw.Many raw.Other = refl
range_named_as raw.Many raw.Zero = refl
range_named_as raw.Many raw.One = refl
range_named_as raw.Many raw.Two = refl
range_named_as raw.Many raw.Few = refl
range_named_as raw.Many raw.Many = refl

-- each category is named by its name
category_named_as : (category : PluralCategory) → (last : RawPluralCategory) × (raw_category_named (name_of category) ≡ Some last)
unfolding raw_category_named
category_named_as Zero = (raw.Zero, refl)
category_named_as One = (raw.One, refl)
category_named_as Two = (raw.Two, refl)
category_named_as Few = (raw.Few, refl)
category_named_as Many = (raw.Many, refl)
category_named_as Other = (raw.Other, refl)

-- the key names a range, and the value a category
record IsEntry (key : List ℕ) (value : Data) : Type 0 where
  pub range : Range
  pub key_is : range_named key ≡ Some range
  pub category : RawPluralCategory
  pub value_is : category_meant value ≡ Ok category

entry_means : (texts : SixTexts) (place : LocalePlace) (key : List ℕ) (value : Data) (all : Found)
    → IsFoundInEntry texts place key value all
    → all.faults ≡ 0
    → IsEntry key value
entry_means texts place key value all (Some fault, has, is) none = absurd (let e = ap (λ (f : Found). f.faults) is in cc)
entry_means texts place key value all (None, inl (no_range, fault), is) none = absurd cc
entry_means texts place key value all (None, inr (start, end, named, inl (no_rule, fault)), is) none = absurd cc
entry_means texts place key value all (None, inr (start, end, named, inr (inl (rule, no_rule, fault))), is) none = absurd cc
entry_means texts place key value all
    (None, inr (start, end, (first, last, key_is, starts, ends), inr (inr (rule, other_rule, (category, value_is, has)))), is) none =
    let there = category_named_as category in
    record {
      range = (first, last);
      key_is = ap range_named key_is ∙ range_named_as first last;
      category = there.0;
      value_is = rw value_is (rw there.1 refl);
    }

-- entries mean ranges
members_mean : (ranges : PluralRanges) (members : Members) → Each IsEntry members → Means (members_meant ranges members)
members_mean ranges no_members h = (ranges, refl)
members_mean ranges (member key value members) (entry, entries) =
    let rest = members_mean (with_range ranges entry.range.0 entry.range.1 entry.category) members entries in
    (rest.0, rw entry.key_is (rw entry.value_is rest.1))

-- ranges without a fault mean ranges, and the locale has cardinal rules
ranges_mean : (document : Data) (locale : List ℕ) (value : Data) (all : Found) → IsFoundInRanges document locale value all
    → all.faults ≡ 0 → is_some (table_in value) ≡ true
    → Means (ranges_meant value) × IsTrue (has_locale Cardinal document locale)
ranges_mean document locale value all (entries, is, whole) none formed =
    let place : LocalePlace = record { part = Ranges; locale = locale } in
    let rules = value_of_locale (part_name Cardinal) locale document in
    let sum = sym (ap (λ (f : Found). f.faults) whole) ∙ none in
    let key = (found_of_key place).faults in
    let of_rules = (found_of_rules place rules).faults in
    let later : of_rules + entries.faults ≡ 0 = no_second key (of_rules + entries.faults) sum in
    let each = each_faultless (IsFoundInEntry (texts_at rules) place) (members_or_none (table_in value)) entries is
    (no_second of_rules entries.faults later) in (
      table_means (table_in value) formed (each_of (texts_at rules) place (members_or_none (table_in value)) each),
      rules_there place rules (no_first of_rules entries.faults later),
    )
  where
    each_of : (texts : SixTexts) (place : LocalePlace) (members : Members)
        → Each (λ key value. (one : Found) × IsFoundInEntry texts place key value one × (one.faults ≡ 0)) members
        → Each IsEntry members
    each_of texts place no_members h = tt
    each_of texts place (member key value members) ((one, is, none), h) =
        (entry_means texts place key value one is none, each_of texts place members h)

    table_means : (table : Option Members) → is_some table ≡ true → Each IsEntry (members_or_none table)
        → Means (there_or Shape table >>= members_meant no_ranges)
    table_means None formed h = absurd cc
    table_means (Some members) formed h = members_mean no_ranges members h

    rules_there : (place : LocalePlace) (rules : Option Data) → (found_of_rules place rules).faults ≡ 0 → IsTrue (is_some rules)
    rules_there place None h = absurd (omega arith)
    rules_there place (Some value) h = refl

-- ---- A part of the document

-- the members have the form of their part
each_formed : (part : Part) (members : Members) → locales_formed part members ≡ Ok tt
    → Each (λ key value. has_part_form part value ≡ true) members
each_formed part no_members h = tt
each_formed part (member locale value members) h = at (has_part_form part value) refl _ (each_formed part members) h
  where
    at : (b : Bool) → has_part_form part value ≡ b → (fault : CheckError)
        → (locales_formed part members ≡ Ok tt → Each (λ key value. has_part_form part value ≡ true) members)
        → (if b then locales_formed part members else Err fault) ≡ Ok tt
        → Each (λ key value. has_part_form part value ≡ true) (member locale value members)
    at true is fault rest h = (is, rest h)
    at false is fault rest h = absurd cc

module _ {A : Type 0} (meant : Data → Stands A) where
  -- the rows that members mean, in which each member is found
  record HasRows (members : Members) : Type 0 where
    pub rows : Rows A
    pub meant_as : rows_meant meant members ≡ Ok rows
    pub finds : (locale : List ℕ) → IsTrue (is_some (get_member locale members)) → IsTrue (is_some (found locale rows))

  has_rows : (members : Members) → Each (λ key value. Means (meant value)) members → HasRows members
  has_rows no_members h = record { rows = []; meant_as = refl; finds = λ locale there. there }
  has_rows (member key value members) ((x, is), h) =
      let rest = has_rows members h in
      record {
        rows = (key, x) ∷ rest.rows;
        meant_as = rw is (rw rest.meant_as refl);
        finds = λ locale there.
            subst (λ b. IsTrue (is_some (cond b (Some x) (found locale rest.rows)))) (is_eq-slice_cmp locale key)
            (at (slice_cmp nat_cmp locale key) (get_member locale members) (found locale rest.rows) (rest.finds locale) there);
      }
    where
      at : (o : Ordering) (there : Option Data) (there' : Option A) → (IsTrue (is_some there) → IsTrue (is_some there'))
          → IsTrue (is_some (match_ordering o there (Some value) there)) → IsTrue (is_some (cond (is_eq o) (Some x) there'))
      at Less there there' finds h = finds h
      at Equal there there' finds h = refl
      at Greater there there' finds h = finds h

  -- the rows that a part means, in which each of its locales is found
  record HasMap (value : Option Data) : Type 0 where
    pub rows : Rows A
    pub meant_as : map_meant meant value ≡ Ok rows
    pub finds : (locale : List ℕ) → IsTrue (is_some (option_and_then (get locale) value)) → IsTrue (is_some (found locale rows))

  has_map : (part : Part) (value : Option Data) → part_formed part value ≡ Ok tt
      → (Each (λ key value. has_part_form part value ≡ true) (members_or_none (option_and_then as_object value))
      → Each (λ key value. Means (meant value)) (members_or_none (option_and_then as_object value)))
      → HasMap value
  has_map part None formed means = record { rows = []; meant_as = refl; finds = λ locale there. there }
  has_map part (Some null) formed means = record { rows = []; meant_as = refl; finds = λ locale there. there }
  has_map part (Some (boolean b)) formed means = absurd cc
  has_map part (Some (number n)) formed means = absurd cc
  has_map part (Some (string s)) formed means = absurd cc
  has_map part (Some (array items)) formed means = absurd cc
  has_map part (Some (object members)) formed means =
      let rows = has_rows members (means (each_formed part members formed)) in
      record { rows = rows.rows; meant_as = rows.meant_as; finds = rows.finds }

-- ---- The document

-- the rules of all members of a part mean something
each_rules_mean : TextsGiveOneAnswer → (part : Part) (members : Members)
    → Each (λ key value. (one : Found) × IsFoundInRules part key value one × (one.faults ≡ 0)) members
    → Each (λ key value. is_some (as_object value) ≡ true) members
    → Each (λ key value. Means (rules_meant value)) members
each_rules_mean one part =
    each_of_both _ _ _ (λ key value found formed. rules_mean one part key value found.0 found.1 found.2 formed)

-- it has no float, is an object, and its parts have their form
record IsFormed (value : Data) : Type 0 where
  pub no_float : has_float value ≡ false
  pub is_object : is_some (as_object value) ≡ true
  pub parts : parts_formed value ≡ Ok tt

is_formed : (value : Data) → document_formed value ≡ Ok tt → IsFormed value
is_formed value h = at (has_float value) (is_some (as_object value)) refl refl _ _ h
  where
    at : (float whole : Bool) → has_float value ≡ float → is_some (as_object value) ≡ whole → (first second : CheckError)
        → (if float then Err first else (if whole then parts_formed value else Err second)) ≡ Ok tt
        → IsFormed value
    at true whole float_is object_is first second h = absurd cc
    at false false float_is object_is first second h = absurd cc
    at false true float_is object_is first second h = record { no_float = float_is; is_object = object_is; parts = h }

-- what holds of each key holds of a locale that is found
of_member : (P : List ℕ → Type 0) (members : Members) → Each (λ key value. P key) members → (locale : List ℕ)
    → IsTrue (is_some (get_member locale members))
    → P locale
of_member P no_members h locale there = absurd cc
of_member P (member key value members) h locale there =
    at (slice_cmp nat_cmp locale key) (is_eq-slice_cmp locale key) (of_member P members h.1 locale) there
  where
    at : (o : Ordering) → is_eq o ≡ bytes_eq locale key → (IsTrue (is_some (get_member locale members)) → P locale)
        → IsTrue (is_some (match_ordering o (get_member locale members) (Some value) (get_member locale members)))
        → P locale
    at Less same rest there = rest there
    at Equal same rest there = subst P (sym ((bytes_eq-Decides locale key).0 (sym same))) h.0
    at Greater same rest there = rest there

of_part : (P : List ℕ → Type 0) (value : Option Data) → Each (λ key value. P key) (members_or_none (option_and_then as_object value))
    → (locale : List ℕ)
    → IsTrue (is_some (option_and_then (get locale) value))
    → P locale
of_part P None h locale there = absurd cc
of_part P (Some null) h locale there = absurd cc
of_part P (Some (boolean b)) h locale there = absurd cc
of_part P (Some (number n)) h locale there = absurd cc
of_part P (Some (string s)) h locale there = absurd cc
of_part P (Some (array items)) h locale there = absurd cc
of_part P (Some (object members)) h locale there = of_member P members h locale there

-- the maps of three parts
maps_of : (value : Data) → IsFormed value → (cardinal : HasMap rules_meant (get (part_name Cardinal) value))
    → (ordinal : HasMap rules_meant (get (part_name Ordinal) value)) → (ranges : HasMap ranges_meant (get (part_name Ranges) value))
    → document_of_json value
    ≡ Ok (record { cardinal = cardinal.rows; ordinal = ordinal.rows; ranges = ranges.rows })
maps_of value formed cardinal ordinal ranges =
    rw formed.no_float (rw formed.is_object (rw cardinal.meant_as (rw ordinal.meant_as (rw ranges.meant_as refl))))

-- the document, part by part
of_parts : TextsGiveOneAnswer → (value : Data) (all : Found) → IsFormed value → IsFoundInDocument value all → all.faults ≡ 0
    → (maps : Document) × (document_of_json value ≡ Ok maps) × HasAll value maps
of_parts one value all formed
    (keys, cardinal, ordinal, ranges, parents, in_keys, in_cardinal, in_ordinal, in_ranges, in_parents, whole) none =
    let sum = sym (ap (λ (f : Found). f.faults) whole) ∙ none in
    let after_keys = no_second keys.faults (cardinal.faults + (ordinal.faults + (ranges.faults + parents.faults))) sum in
    let after_cardinal = no_second cardinal.faults (ordinal.faults + (ranges.faults + parents.faults)) after_keys in
    let three = three_formed _ _ _ formed.parts in
    let members_of : Part → Members = λ part. members_at part value in
    let cardinal_each =
    each_faultless (IsFoundInRules Cardinal) (members_of Cardinal) cardinal in_cardinal
    (no_first cardinal.faults (ordinal.faults + (ranges.faults + parents.faults)) after_keys) in
    let ordinal_each =
    each_faultless (IsFoundInRules Ordinal) (members_of Ordinal) ordinal in_ordinal
    (no_first ordinal.faults (ranges.faults + parents.faults) after_cardinal) in
    let ranges_each =
    each_faultless (IsFoundInRanges value) (members_of Ranges) ranges in_ranges
    (no_first ranges.faults parents.faults (no_second ordinal.faults (ranges.faults + parents.faults) after_cardinal)) in
    let cardinal_map =
    has_map rules_meant Cardinal (get (part_name Cardinal) value) three.cardinal_is
    (each_rules_mean one Cardinal (members_of Cardinal) cardinal_each) in
    let ordinal_map =
    has_map rules_meant Ordinal (get (part_name Ordinal) value) three.ordinal_is
    (each_rules_mean one Ordinal (members_of Ordinal) ordinal_each) in
    let ranges_map =
    has_map ranges_meant Ranges (get (part_name Ranges) value) three.ranges_is
    (λ forms.
    each_of_both _ _ _ (λ key one found form. (ranges_mean value key one found.0 found.1 found.2 form).0) (members_of Ranges)
    ranges_each
    forms) in
    let ruled =
    each_of_both _ _ _ (λ key one found form. (ranges_mean value key one found.0 found.1 found.2 form).1) (members_of Ranges)
    ranges_each
    (formed_members (get (part_name Ranges) value) three.ranges_is) in (
      record { cardinal = cardinal_map.rows; ordinal = ordinal_map.rows; ranges = ranges_map.rows },
      maps_of value formed cardinal_map ordinal_map ranges_map,
      record {
        cardinal = cardinal_map.finds;
        ordinal = ordinal_map.finds;
        ranges = ranges_map.finds;
        ranged = λ locale there.
            cardinal_map.finds locale
            (of_part (λ key. IsTrue (has_locale Cardinal value key)) (get (part_name Ranges) value) ruled locale there);
      },
    )
  where
    formed_members : (value : Option Data) → part_formed Ranges value ≡ Ok tt
        → Each (λ key value. has_part_form Ranges value ≡ true) (members_or_none (option_and_then as_object value))
    formed_members None h = tt
    formed_members (Some null) h = tt
    formed_members (Some (boolean b)) h = tt
    formed_members (Some (number n)) h = tt
    formed_members (Some (string s)) h = tt
    formed_members (Some (array items)) h = tt
    formed_members (Some (object members)) h = each_formed Ranges members h

pub faultless : TextsGiveOneAnswer → FaultlessDocumentsAreTaken
faultless one value report formed is none =
    let parts = is.found.0 in
    let count = (found_of_count report.locales).faults in
    of_parts one value parts (is_formed value formed) is.found.1
    (no_first parts.faults count (sym (ap (λ (f : Found). f.faults) is.found.2) ∙ none))
