-- What is read for its refusals alone, and the rows of one locale.
use Rattle.std.proofs.Common.{◌≡◌, ℕ, List, ◌∷◌, Option, Some, None, Result, Ok, Err, true, codes, if◌then◌else◌, is_some}
use Rattle.std.proofs.Common.{refl, sym, ap, subst, ◌∙◌}
use Rattle.std.proofs.lemmas.List.Folds.{Any-from_list_any}
use Rattle.std.proofs.lemmas.Slice.Eq.{bytes_eq-Decides}
use Rattle.std.specs.Borrow.{Bor}
use Rattle.std.specs.List.{All, list_any}
use Rattle.std.specs.Prelude.{⊤}
use Rattle.std.specs.Str.{bytes_eq}
use Rattle.plural_runtime.specs.PackedRelations.{PackedRelation}
use Rattle.plural_runtime.specs.RuleOfText.{RuleAnswer, rule_of_text}
use Rattle.plural_base.specs.declared.category.PluralCategory.{PluralCategory}
use Rattle.plural_base.specs.declared.json.error.JsonError.{JsonError}
use Rattle.plural_base.specs.declared.json.error.JsonError.TheVariants.{Shape}
use Rattle.plural_base.specs.declared.ranges.PluralRanges.{PluralRanges}
use Rattle.plural_base.specs.DocumentJson.{Rows, all_maps, document_meant, found, map_meant, row_of, rows_meant, with_locale}
use Rattle.plural_base.specs.FiveRules.{FiveRules, Paired, five}
use Rattle.plural_base.specs.Inner.JsonSteps.{Passes, row_alone, row_meant}
use Rattle.plural_base.specs.Json.{IsRefusal, Stands, ◌>>=◌, all_five}
use Rattle.plural_base.specs.RangesJson.{ranges_meant}
use Rattle.plural_base.specs.RulesJson.{naming_category, rule_meant, rules_meant}
use Rattle.plural_base.proofs.reading.DocumentRefusals.{refused_with, first_of_three, second_of_three, third_of_three}
use Rattle.plural_base.proofs.reading.RulesRead.{rows_read}
use Rattle.serde_json.specs.Data.{Data, Members, member}
use Rattle.serde_json.specs.Find.{as_object, as_str, get, get_member}

-- ---- One after the other

-- a value that is made of another passes as the other does
pub passes_on : {A B : Type 0} (r : Result ⊤ JsonError) (s : Stands A) (f : A → B) → Passes r s → Passes r (s >>= λ x. Ok (f x))
passes_on (Ok u) s f h = (f h.0, rw h.1 refl)
passes_on (Err e) s f h = refused_with e s (s >>= λ x. Ok (f x)) (λ refused. rw refused refl) h

-- five that are all present pass together
pub five_pass : {A : Type 0} (zero one two few many : Stands A) → ((x : A) × (zero ≡ Ok x)) → ((x : A) × (one ≡ Ok x))
    → ((x : A) × (two ≡ Ok x))
    → ((x : A) × (few ≡ Ok x))
    → (r : Result ⊤ JsonError) → Passes r many → Passes r (all_five zero one two few many)
five_pass zero one two few many z o t f (Ok u) m =
    (five z.0 o.0 t.0 f.0 m.0, rw (z.1, o.1, t.1, f.1, m.1) refl)
five_pass zero one two few many z o t f (Err e) m =
    refused_with e many (all_five zero one two few many) (λ refused. rw (z.1, o.1, t.1, f.1, refused) refl) m

module _ {A : Type 0} (meant : Data → Stands A) where
  -- rows pass as those after a first one do
  pub rows_pass : (k : List ℕ) (value : Data) (ms : Members) → ((x : A) × (meant value ≡ Ok x)) → (r : Result ⊤ JsonError)
      → Passes r (rows_meant meant ms) → Passes r (rows_meant meant (member k value ms))
  rows_pass k value ms first r h =
      subst (λ (s : Stands (Rows A)). Passes r s)
      (sym (ap (λ (s : Stands A). s >>= λ x. (rows_meant meant ms >>= λ rows. Ok ((k, x) ∷ rows))) first.1))
      (passes_on r (rows_meant meant ms) (λ rows. (k, first.0) ∷ rows) h)

  -- a refusal of the first one is one of the rows
  pub rows_refused : (k : List ℕ) (value : Data) (ms : Members) (e : JsonError) → IsRefusal e (meant value)
      → IsRefusal e (rows_meant meant (member k value ms))
  rows_refused k value ms e h =
      refused_with e (meant value) (rows_meant meant (member k value ms)) (λ refused. rw refused refl) h

  -- ---- The row of a locale

  -- what the member of a locale means is the row of what is found for it
  row_paired : (locale : List ℕ) (value : Option Data) (x : Option A) → Paired (λ v y. meant v ≡ Ok y) value x
      → row_meant meant locale value ≡ Ok (row_of locale x)
  row_paired locale None None h = refl
  row_paired locale (Some v) (Some y) h = rw h refl
  row_paired locale None (Some y) h = absurd h
  row_paired locale (Some v) None h = absurd h

  -- where all rows pass, the row of a locale is what its member means
  pub row_found : (locale : List ℕ) (ms : Members) (passed : (rows : Rows A) × (rows_meant meant ms ≡ Ok rows))
      → row_meant meant locale (get_member locale ms)
      ≡ row_alone locale (rows_meant meant ms)
  row_found locale ms passed =
      let paired = rows_read meant (λ v y. meant v ≡ Ok y) (λ v y read. read) locale ms passed.0 passed.1 in
      row_paired locale (get_member locale ms) (found locale passed.0) paired
      ∙ sym (ap (λ (s : Stands (Rows A)). row_alone locale s) passed.1)

-- ---- A document

-- of three maps it is the row of each
pub maps_alone : (locale : List ℕ) (cardinal ordinal : Stands (Rows FiveRules)) (ranges : Stands (Rows PluralRanges))
    → with_locale locale (all_maps cardinal ordinal ranges)
    ≡ all_maps (row_alone locale cardinal) (row_alone locale ordinal) (row_alone locale ranges)
maps_alone locale (Err e) ordinal ranges = refl
maps_alone locale (Ok c) (Err e) ranges = refl
maps_alone locale (Ok c) (Ok o) (Err e) = refl
maps_alone locale (Ok c) (Ok o) (Ok r) = refl

-- a refusal of the cardinal rules is one of the document of a locale
pub cardinal_of_locale_refused : (locale : List ℕ) (value : Data) (a : Option Data) (e : JsonError) → true ≡ is_some (as_object value)
    → a ≡ get (codes "cardinal") value → IsRefusal e (row_alone locale (map_meant rules_meant a))
    → IsRefusal e (with_locale locale (document_meant value))
cardinal_of_locale_refused locale value a e is_object a_is first =
    let cardinal = map_meant rules_meant (get (codes "cardinal") value) in
    let ordinal = map_meant rules_meant (get (codes "ordinal") value) in
    let ranges = map_meant ranges_meant (get (codes "ranges") value) in
    refused_with e (row_alone locale (map_meant rules_meant a)) (with_locale locale (document_meant value))
    (λ refused.
    ap (λ is. with_locale locale (if is then all_maps cardinal ordinal ranges else Err Shape)) (sym is_object)
    ∙ maps_alone locale cardinal ordinal ranges
    ∙ first_of_three (row_alone locale cardinal) (row_alone locale ordinal) (row_alone locale ranges) e
    (ap (λ d. row_alone locale (map_meant rules_meant d)) (sym a_is) ∙ refused))
    first

-- a refusal of the ordinal rules is one, if the cardinal ones are read
pub ordinal_of_locale_refused : (locale : List ℕ) (value : Data) (a b : Option Data) (c : Rows FiveRules) (e : JsonError)
    → true ≡ is_some (as_object value) → a ≡ get (codes "cardinal") value → b ≡ get (codes "ordinal") value
    → row_alone locale (map_meant rules_meant a) ≡ Ok c → IsRefusal e (row_alone locale (map_meant rules_meant b))
    → IsRefusal e (with_locale locale (document_meant value))
ordinal_of_locale_refused locale value a b c e is_object a_is b_is first second =
    let cardinal = map_meant rules_meant (get (codes "cardinal") value) in
    let ordinal = map_meant rules_meant (get (codes "ordinal") value) in
    let ranges = map_meant ranges_meant (get (codes "ranges") value) in
    refused_with e (row_alone locale (map_meant rules_meant b)) (with_locale locale (document_meant value))
    (λ refused.
    ap (λ is. with_locale locale (if is then all_maps cardinal ordinal ranges else Err Shape)) (sym is_object)
    ∙ maps_alone locale cardinal ordinal ranges
    ∙ second_of_three (row_alone locale cardinal) (row_alone locale ordinal) (row_alone locale ranges) c e
    (ap (λ d. row_alone locale (map_meant rules_meant d)) (sym a_is) ∙ first)
    (ap (λ d. row_alone locale (map_meant rules_meant d)) (sym b_is) ∙ refused))
    second

-- a refusal of the ranges is one of the document of a locale, if both maps of rules are read
pub locale_refused : (locale : List ℕ) (value : Data) (a b r : Option Data) (c o : Rows FiveRules) (e : JsonError)
    → true ≡ is_some (as_object value)
    → a ≡ get (codes "cardinal") value → b ≡ get (codes "ordinal") value → r ≡ get (codes "ranges") value
    → row_alone locale (map_meant rules_meant a) ≡ Ok c → row_alone locale (map_meant rules_meant b) ≡ Ok o
    → IsRefusal e (row_alone locale (map_meant ranges_meant r)) → IsRefusal e (with_locale locale (document_meant value))
locale_refused locale value a b r c o e is_object a_is b_is r_is first second third =
    let cardinal = map_meant rules_meant (get (codes "cardinal") value) in
    let ordinal = map_meant rules_meant (get (codes "ordinal") value) in
    let ranges = map_meant ranges_meant (get (codes "ranges") value) in
    refused_with e (row_alone locale (map_meant ranges_meant r)) (with_locale locale (document_meant value))
    (λ refused.
    ap (λ is. with_locale locale (if is then all_maps cardinal ordinal ranges else Err Shape)) (sym is_object)
    ∙ maps_alone locale cardinal ordinal ranges
    ∙ third_of_three (row_alone locale cardinal) (row_alone locale ordinal) (row_alone locale ranges) c o e
    (ap (λ d. row_alone locale (map_meant rules_meant d)) (sym a_is) ∙ first)
    (ap (λ d. row_alone locale (map_meant rules_meant d)) (sym b_is) ∙ second)
    (ap (λ d. row_alone locale (map_meant ranges_meant d)) (sym r_is) ∙ refused))
    third
