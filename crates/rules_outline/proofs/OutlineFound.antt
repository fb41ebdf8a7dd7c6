-- What is found in the outline of a document of rules.
use Rattle.std.proofs.Common.{◌≡◌, ℕ, List, [], ◌∷◌, Bool, true, false, cond, Option, Some, None, refl, sym, ap, subst, ◌∙◌}
use Rattle.std.specs.Prelude.{bytes_eq, codes, option_and_then, unwrap_or}
use Rattle.std.specs.List.{find}
use Rattle.std.specs.Option.{option_or}
use Rattle.std.proofs.lemmas.Slice.Eq.{bytes_eq-Decides}
use Rattle.plural_documents.specs.Outlines.{outline, outline_members, with_member}
use Rattle.plural_documents.specs.declared.Portion.TheVariants as kept
use Rattle.plural_documents.proofs.OutlineLemmas.{found_kept}
use Rattle.plural_fallback.specs.Chain.{next_by, next_of}
use Rattle.plural_fallback.specs.LocaleNames.{before_last, is_same, key_of}
use Rattle.plural_fallback.specs.LocalesJson.{keys_in_object, keys_of, keys_under, parent_in, part_name, text_at}
use Rattle.plural_fallback.specs.declared.locales.Part.{Part}
use Rattle.plural_fallback.specs.declared.locales.Part.TheVariants.{Cardinal, Ordinal, Ranges}
use Rattle.serde_json.specs.Data.{Data, null, boolean, number, string, array, object, Members, no_members, member}
use Rattle.serde_json.specs.Find.{as_object, as_str, get, get_member}
use Rattle.rules_outline.specs.Inner.RulesOutline.{is_inside, is_part, keeps_rules}
use Rattle.rules_outline.specs.LocaleKeys.{value_at_key}
use Rattle.rules_outline.specs.declared.outline.KeptLocales.{KeptLocales}
use Rattle.rules_outline.specs.declared.outline.RulesSieve.{RulesSieve}
use Rattle.rules_outline.specs.declared.outline.RulesSieve.TheVariants.{Document, Keys}
use Rattle.rules_outline.proofs.SameNames.{inside_same}

-- ---- What `find` finds

found_passes : (test : List ℕ → Bool) (keys : List (List ℕ)) (key : List ℕ) → find test keys ≡ Some key → test key ≡ true
found_passes test [] key is = absurd (cc)
found_passes test (first ∷ keys) key is = by (test first) refl is (found_passes test keys key)
  where
    by : (b : Bool) → test first ≡ b → cond b (Some first) (find test keys) ≡ Some key → (find test keys ≡ Some key → test key ≡ true)
        → test key ≡ true
    by true passes is further = subst (λ k. test k ≡ true) (ap (λ o. unwrap_or o key) is) passes
    by false passes is further = further is

passed_over : (test : List ℕ → Bool) (key : List ℕ) (value : Option Data) (ms : Members) → test key ≡ false
    → find test (keys_of (with_member key value ms)) ≡ find test (keys_of ms)
passed_over test key None ms other = refl
passed_over test key (Some value) ms other = rw other refl

-- ---- A part

module _ (locales : KeptLocales) where
  abbrev IsInside : List ℕ → Type 0
  IsInside key = is_inside locales key ≡ true

  -- a test that only locales inside pass finds the same key
  find_kept : (test : List ℕ → Bool) → ((key : List ℕ) → test key ≡ true → IsInside key) → (ms : Members)
      → find test (keys_of (outline_members keeps_rules (Keys locales) ms)) ≡ find test (keys_of ms)
  find_kept test inside no_members = refl
  find_kept test inside (member key value ms) = by (test key) refl (find_kept test inside ms)
    where
      by : (b : Bool) → test key ≡ b → find test (keys_of (outline_members keeps_rules (Keys locales) ms)) ≡ find test (keys_of ms)
          → find test (keys_of (outline_members keeps_rules (Keys locales) (member key value ms))) ≡ cond b (Some key) (find test (keys_of ms))
      by true passes further = rw (inside key passes, passes) refl
      by false passes further =
          passed_over test key (outline keeps_rules (keeps_rules (Keys locales) key) value) (outline_members keeps_rules (Keys locales) ms) passes ∙ further

  abbrev pub part_of : Option Data → Option Data
  part_of whole = option_and_then (outline keeps_rules (kept.Members (Keys locales))) whole

  find_in_part : (test : List ℕ → Bool) → ((key : List ℕ) → test key ≡ true → IsInside key) → (whole : Option Data)
      → find test (keys_in_object (option_and_then as_object (part_of whole)))
      ≡ find test (keys_in_object (option_and_then as_object whole))
  find_in_part test inside None = refl
  find_in_part test inside (Some null) = refl
  find_in_part test inside (Some (boolean truth)) = refl
  find_in_part test inside (Some (number n)) = refl
  find_in_part test inside (Some (string text)) = refl
  find_in_part test inside (Some (array items)) = refl
  find_in_part test inside (Some (object ms)) = find_kept test inside ms

  -- the locale itself, and the keys that are the same, are inside as it is
  key_in_part : (locale : List ℕ) → IsInside locale → (whole : Option Data)
      → key_of (keys_in_object (option_and_then as_object (part_of whole))) locale
      ≡ key_of (keys_in_object (option_and_then as_object whole)) locale
  key_in_part locale inside whole =
      rw (
        find_in_part (bytes_eq locale)
            (λ key same. subst (λ (k : List ℕ). is_inside locales k ≡ true) ((bytes_eq-Decides locale key).0 same) inside) whole,
        find_in_part (is_same locale) (λ key same. sym (inside_same locales locale key same) ∙ inside) whole,
      ) refl

  all_kept : (found : Option Data) → option_and_then (outline {C = RulesSieve} keeps_rules kept.Whole) found ≡ found
  all_kept None = refl
  all_kept (Some value) = refl

  value_in_part : (key : List ℕ) → IsInside key → (whole : Option Data)
      → option_and_then (get key) (part_of whole) ≡ option_and_then (get key) whole
  value_in_part key inside None = refl
  value_in_part key inside (Some null) = refl
  value_in_part key inside (Some (boolean truth)) = refl
  value_in_part key inside (Some (number n)) = refl
  value_in_part key inside (Some (string text)) = refl
  value_in_part key inside (Some (array items)) = refl
  value_in_part key inside (Some (object ms)) =
      found_kept RulesSieve keeps_rules (Keys locales) key ms ∙ rw inside (all_kept (get_member key ms))

  -- the key that is found for a locale inside is inside
  pub key_inside : (keys : List (List ℕ)) (locale key : List ℕ) → IsInside locale → key_of keys locale ≡ Some key → IsInside key
  key_inside keys locale key inside is = by (find (bytes_eq locale) keys) refl is
    where
      by : (exact : Option (List ℕ)) → find (bytes_eq locale) keys ≡ exact → option_or exact (find (is_same locale) keys) ≡ Some key
          → is_inside locales key ≡ true
      by (Some k) found is =
          let same = ap (λ o. unwrap_or o key) is in
          subst (λ (l : List ℕ). is_inside locales l ≡ true)
          ((bytes_eq-Decides locale key).0 (found_passes (bytes_eq locale) keys key (found ∙ is))) inside
      by None found is =
          sym (inside_same locales locale key (found_passes (is_same locale) keys key is)) ∙ inside

-- ---- A document

some_same : (one other : Data) → Some one ≡ Some other → one ≡ other
some_same one other same = ap (λ o. unwrap_or o one) same

module _ (part : Part) (locales : KeptLocales) (name : List ℕ) (named : is_part part name ≡ true) where
  abbrev top : RulesSieve
  top = Document part locales

  -- what is kept of a part
  part_kept : (ms : Members) → get_member name (outline_members keeps_rules top ms) ≡ part_of locales (get_member name ms)
  part_kept ms = found_kept RulesSieve keeps_rules top name ms ∙ rw named refl

  pub part_found : (whole document : Data) → outline keeps_rules (kept.Members top) whole ≡ Some document
      → get name document ≡ part_of locales (get name whole)
  part_found null document is = rw (← some_same null document is) refl
  part_found (boolean truth) document is = rw (← some_same (boolean truth) document is) refl
  part_found (number n) document is = rw (← some_same (number n) document is) refl
  part_found (string text) document is = rw (← some_same (string text) document is) refl
  part_found (array items) document is = rw (← some_same (array items) document is) refl
  part_found (object ms) document is = rw (← some_same (object (outline_members keeps_rules top ms)) document is) (part_kept ms)

pub part_named : (part : Part) → is_part part (part_name part) ≡ true
part_named part = rw ((bytes_eq-Decides (part_name part) (part_name part)).1 refl) refl

parents_named : (part : Part) → is_part part (codes "parents") ≡ true
parents_named Cardinal = refl
parents_named Ordinal = refl
parents_named Ranges = refl

-- the outline of a document
module _ (part : Part) (locales : KeptLocales) (whole document : Data)
    (is : outline keeps_rules (kept.Members (Document part locales)) whole ≡ Some document) where
  -- a locale inside has the same key
  pub same_key : (locale : List ℕ) → is_inside locales locale ≡ true
      → key_of (keys_under (part_name part) document) locale ≡ key_of (keys_under (part_name part) whole) locale
  same_key locale inside =
      rw (part_found part locales (part_name part) (part_named part) whole document is)
      (key_in_part locales locale inside (get (part_name part) whole))

  -- and a key inside the same value
  pub same_value : (key : List ℕ) → is_inside locales key ≡ true → value_at_key document part key ≡ value_at_key whole part key
  same_value key inside =
      rw (part_found part locales (part_name part) (part_named part) whole document is)
      (value_in_part locales key inside (get (part_name part) whole))

  same_text : (key : List ℕ) → is_inside locales key ≡ true → text_at document key ≡ text_at whole key
  same_text key inside =
      rw (part_found part locales (codes "parents") (parents_named part) whole document is)
      (ap (option_and_then as_str) (value_in_part locales key inside (get (codes "parents") whole)))

  same_parent_key : (locale : List ℕ) → is_inside locales locale ≡ true
      → key_of (keys_under (codes "parents") document) locale ≡ key_of (keys_under (codes "parents") whole) locale
  same_parent_key locale inside =
      rw (part_found part locales (codes "parents") (parents_named part) whole document is)
      (key_in_part locales locale inside (get (codes "parents") whole))

  -- so the same locale comes next
  pub same_next : (locale : List ℕ) → is_inside locales locale ≡ true
      → next_of (parent_in document) locale ≡ next_of (parent_in whole) locale
  same_next locale inside = ap (λ parent. next_by parent locale (before_last locale)) same_parent
    where
      by : (key : Option (List ℕ)) → key_of (keys_under (codes "parents") whole) locale ≡ key
          → option_and_then (text_at document) key ≡ option_and_then (text_at whole) key
      by None found = refl
      by (Some key) found = same_text key (key_inside locales (keys_under (codes "parents") whole) locale key inside found)

      same_parent : parent_in document locale ≡ parent_in whole locale
      same_parent =
          ap (option_and_then (text_at document)) (same_parent_key locale inside)
          ∙ by (key_of (keys_under (codes "parents") whole) locale) refl
