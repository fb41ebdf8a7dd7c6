-- Lists of texts, by what is told of each value.
use Rattle.std.proofs.Common.{◌≡◌, ◌≢◌, ◌↔◌, ℕ, ◌+◌, ◌<◌, List, [], ◌∷◌, length, get_or, drop, map, Bool, true, false, bytes_eq}
use Rattle.std.proofs.Common.{refl, sym, ap, subst, ◌∙◌, add-one}
use Rattle.std.specs.Prelude.{◌&&◌, not, ⊤, IsTrue, IsFalse, Option, Some, None, is_some}
use Rattle.std.specs.List.{AllByRecursion}
use Rattle.std.proofs.Math.Seq.{drop-cons}
use Rattle.std.proofs.lemmas.Slice.Eq.{bytes_eq-Decides}
use Rattle.serde_json.specs.Data.{Data, null, boolean, number, string, array, object, Items, no_items, item}
use Rattle.serde_json.specs.Find.{as_array, as_str}
use Rattle.serde_json.specs.View.{items_of, items_view, view}
use Rattle.serde_json.specs.declared.Value.{Value}
use Rattle.plural_message.specs.Messages.{placeholder}
use Rattle.message_report.specs.Inner.NeededRules.{all_pass, is_other_text}
use Rattle.message_report.specs.SourceArguments.{IsTextList, IsWithoutNumber, text_list}

-- a test of texts that passes those of a kind
record IsTestOf (P : List ℕ → Type 0) (passes : Option (List ℕ) → Bool) : Type 0 where
  none : passes None ≡ false
  only : (text : List ℕ) → IsTrue (passes (Some text)) → P text
  each : (text : List ℕ) → P text → passes (Some text) ≡ true

is_some_tests : IsTestOf (λ text. ⊤) is_some
is_some_tests = record { none = refl; only = λ text h. tt; each = λ text h. refl }

is_other_tests : IsTestOf (λ text. text ≢ placeholder) is_other_text
is_other_tests = record {
  none = refl;
  only = λ text other same. let no : not true ≡ true =
      subst (λ (b : Bool). not b ≡ true) ((bytes_eq-Decides text placeholder).1 same) other in cc;
  each = λ text other. apart text other (bytes_eq text placeholder) refl;
}
  where
    apart : (text : List ℕ) → text ≢ placeholder → (equal : Bool) → bytes_eq text placeholder ≡ equal → not equal ≡ true
    apart text other true is = absurd (other ((bytes_eq-Decides text placeholder).0 is))
    apart text other false is = refl

-- ---- The values of a list

-- a value with a text is that text
text_is : (value : Data) (text : List ℕ) → as_str value ≡ Some text → value ≡ string text
text_is null text is = cc
text_is (boolean b) text is = cc
text_is (number n) text is = cc
text_is (string s) text is = let same : s ≡ text = cc in ap string same
text_is (array ds) text is = cc
text_is (object ms) text is = cc

-- and one with a list is that list
list_is : (value : Data) (values : Items) → as_array value ≡ Some values → value ≡ array values
list_is null values is = cc
list_is (boolean b) values is = cc
list_is (number n) values is = cc
list_is (string s) values is = cc
list_is (array ds) values is = let same : ds ≡ values = cc in ap array same
list_is (object ms) values is = cc

-- texts of a kind, and nothing else
abbrev AreListed : (List ℕ → Type 0) → Items → Type 0
AreListed P values = (texts : List (List ℕ)) × (values ≡ items_of (map string texts)) × AllByRecursion P texts

one_more : (P : List ℕ → Type 0) (passes : Option (List ℕ) → Bool) (value : Data) (values : Items) (text : Option (List ℕ))
    → IsTestOf P passes → as_str value ≡ text → IsTrue (passes text) → AreListed P values → AreListed P (item value values)
one_more P passes value values None is_test is pass rest = let no : passes None ≡ false = is_test.none in cc
one_more P passes value values (Some text) is_test is pass rest =
    (text ∷ rest.0, rw (text_is value text is) (ap (item (string text)) rest.1), (is_test.only text pass, rest.2))

first_of : (a b : Bool) → IsTrue (a && b) → IsTrue a
first_of true b h = refl
first_of false b h = h

second_of : (a b : Bool) → IsTrue (a && b) → IsTrue b
second_of true b h = h
second_of false b h = cc

are_listed : (P : List ℕ → Type 0) (passes : Option (List ℕ) → Bool) (values : Items) → IsTestOf P passes
    → IsTrue (all_pass passes values) → AreListed P values
are_listed P passes no_items is_test all = ([], refl, tt)
are_listed P passes (item value values) is_test all =
    one_more P passes value values (as_str value) is_test refl (first_of (passes (as_str value)) (all_pass passes values) all)
    (are_listed P passes values is_test (second_of (passes (as_str value)) (all_pass passes values) all))

listed_pass : (P : List ℕ → Type 0) (passes : Option (List ℕ) → Bool) (texts : List (List ℕ)) → IsTestOf P passes
    → AllByRecursion P texts → all_pass passes (items_of (map string texts)) ≡ true
listed_pass P passes [] is_test all = refl
listed_pass P passes (text ∷ texts) is_test all = rw (is_test.each text all.0) (listed_pass P passes texts is_test all.1)

-- ---- A value

-- it is a list of texts of a kind
abbrev IsListOf : (List ℕ → Type 0) → Data → Type 0
IsListOf P value = (texts : List (List ℕ)) × (value ≡ text_list texts) × AllByRecursion P texts

tells : (P : List ℕ → Type 0) (passes : Option (List ℕ) → Bool) (value : Data) (values : Items) (answer : Bool) → IsTestOf P passes
    → Some values ≡ as_array value → answer ≡ all_pass passes values → IsTrue answer ↔ IsListOf P value
tells P passes value values answer is_test is answers = (
  (λ yes.
      let listed = are_listed P passes values is_test (sym answers ∙ yes) in
      (listed.0, list_is value values (sym is) ∙ ap array listed.1, listed.2)),
  (λ list.
      let same : Some values ≡ Some (items_of (map string list.0)) = is ∙ ap as_array list.1 in
      let values_are : values ≡ items_of (map string list.0) = cc in
      answers ∙ ap (all_pass passes) values_are ∙ listed_pass P passes list.0 is_test list.2),
)

any_texts : (texts : List (List ℕ)) → AllByRecursion (λ text. ⊤) texts
any_texts [] = tt
any_texts (text ∷ texts) = (tt, any_texts texts)

pub text_list_if : (value : Data) (values : Items) (answer : Bool) → Some values ≡ as_array value → answer ≡ all_pass is_some values
    → IsTrue answer ↔ IsTextList value
text_list_if value values answer is answers =
    let told = tells (λ text. ⊤) is_some value values answer is_some_tests is answers in (
      (λ yes. let list = told.0 yes in (list.0, list.1)),
      (λ list. told.1 (list.0, list.1, any_texts list.0)),
    )

pub without_number_if : (value : Data) (values : Items) (answer : Bool) → Some values ≡ as_array value
    → answer ≡ all_pass is_other_text values → IsTrue answer ↔ IsWithoutNumber value
without_number_if value values answer is answers =
    tells (λ text. text ≢ placeholder) is_other_text value values answer is_other_tests is answers

-- what has no list is none of texts
pub no_list : (value : Data) (texts : List (List ℕ)) → None ≡ as_array value → ¬ (value ≡ text_list texts)
no_list value texts none is = let e : None ≡ Some (items_of (map string texts)) = none ∙ ap as_array is in cc

-- the same of the opposite
pub turned : {P : Type 0} (answer : Bool) → IsTrue answer ↔ P → IsFalse (not answer) ↔ P
turned true is = ((λ h. is.0 refl), (λ p. refl))
turned false is = ((λ h. cc), (λ p. let yes : false ≡ true = is.1 p in cc))

-- ---- Value by value

-- the values from a place on
at_place : (passes : Option (List ℕ) → Bool) (values : List Value) (i : ℕ) (d : Value) → i < length values
    → all_pass passes (items_view (drop i values))
    ≡ (passes (as_str (view (get_or values i d))) && all_pass passes (items_view (drop (i + 1) values)))
at_place passes values i d lt =
    let cons : drop i values ≡ get_or values i d ∷ drop (i + 1) values = rw (add-one, drop-cons values i d lt) refl in
    ap (λ (vs : List Value). all_pass passes (items_view vs)) cons

-- a value that passes
pub one_passed : (passes : Option (List ℕ) → Bool) (values : List Value) (i : ℕ) (d value : Value) (all : Bool) → i < length values
    → value ≡ get_or values i d → passes (as_str (view value)) ≡ true → all_pass passes (items_view (drop i values)) ≡ all
    → all_pass passes (items_view (drop (i + 1) values)) ≡ all
one_passed passes values i d value all lt is pass so_far =
    let here : passes (as_str (view (get_or values i d))) ≡ true = subst (λ (v : Value). passes (as_str (view v)) ≡ true) is pass in
    sym (at_place passes values i d lt ∙ rw here refl) ∙ so_far

-- one that doesn't
pub one_failed : (passes : Option (List ℕ) → Bool) (values : List Value) (i : ℕ) (d value : Value) (all : Bool) → i < length values
    → value ≡ get_or values i d → passes (as_str (view value)) ≡ false → all_pass passes (items_view (drop i values)) ≡ all
    → false ≡ all
one_failed passes values i d value all lt is fail so_far =
    let here : passes (as_str (view (get_or values i d))) ≡ false = subst (λ (v : Value). passes (as_str (view v)) ≡ false) is fail in
    sym (at_place passes values i d lt ∙ rw here refl) ∙ so_far
