-- The line for gettext.
use Rattle.std.proofs.Common.{◌≡◌, ℕ, suc, ◌+◌, ◌<◌, ◌≤◌, List, [], ◌∷◌, ◌++◌, length, drop, get_or, Bool, true, false, inl, inr}
use Rattle.std.proofs.Common.{refl, sym, ap, subst, ◌∙◌, append_assoc, arith, add-one}
use Rattle.std.specs.Prelude.{◌⊎◌, ◌||◌, MatchBool, Option, Some, None, Result, Ok, Err, codes, is_some, slice_get, if◌then◌else◌}
use Rattle.std.specs.Fmt.{decimal}
use Rattle.std.proofs.Math.Seq.{drop-cons}
use Rattle.std.proofs.lemmas.Bool.{true≢false}
use Rattle.std.proofs.lemmas.List.{append-nil, length-drop}
use Rattle.icu_plurals.specs.FiveRules.{FiveRules, categories_of, listed, passes}
use Rattle.icu_plurals.specs.Operands.{of_whole}
use Rattle.icu_plurals.specs.PackedRelations.{PackedRelation}
use Rattle.icu_plurals.specs.PackedTruth.{packed_truth}
use Rattle.icu_plurals.specs.declared.PluralCategory.{PluralCategory}
use Rattle.icu_plurals.specs.declared.PluralCategory.TheVariants.{Zero, One, Two, Few, Many, Other}
use Rattle.icu_plurals.specs.Json.{Stands}
use Rattle.icu_plurals.specs.RulesJson.{rules_of_json}
use Rattle.number_categories.specs.WholeNumbers.{IsLeastFrom}
use Rattle.plural_fallback.specs.declared.error.FallbackError.{FallbackError}
use Rattle.plural_fallback.specs.declared.locales.Part.{Part}
use Rattle.serde_json.specs.Data.{Data}
use Rattle.serde_json.specs.View.{view}
use Rattle.form_commands.specs.Inner.RunSteps.{IsFoundUnderKey}
use Rattle.form_commands.specs.declared.language.LanguageRules.{LanguageRules}
use Rattle.form_commands.specs.CExpressions.{c_condition_text, choice_text, choice_value, condition_value}
use Rattle.form_commands.specs.GettextLines.{AreFormsOf, FormsAreChosen, HasForm, SomeHas, tried_powers, condition_if}
use Rattle.form_commands.specs.GettextLines.{conditions_of, rule_for, whole_category}
use Rattle.form_commands.proofs.ConditionValues.{condition_values}

-- ---- The forms

-- with the forms of the categories that are left, the forms are those of all
abbrev pub FormsLeft : FiveRules → List PluralCategory → List PluralCategory → List PluralCategory → Type 0
FormsLeft rules left all now = (rest : List PluralCategory) → AreFormsOf rules left rest → AreFormsOf rules all (now ++ rest)

pub forms_begin : (rules : FiveRules) (all left : List PluralCategory) (now : List PluralCategory) → left ≡ all → now ≡ []
    → FormsLeft rules left all now
forms_begin rules all left now same none rest h =
    rw none (subst (λ (cs : List PluralCategory). AreFormsOf rules cs rest) same h)

pub forms_go_on : (rules : FiveRules) (category : PluralCategory) (all left after now next : List PluralCategory) → left ≡ category ∷ after
    → FormsLeft rules left all now
    → (HasForm rules category × (next ≡ now ++ category ∷ [])) ⊎ (¬ (HasForm rules category) × (next ≡ now))
    → FormsLeft rules after all next
forms_go_on rules category all left after now next is so_far (inl has) rest h =
    rw (has.1, append_assoc now (category ∷ []) rest)
    (subst (λ (cs : List PluralCategory). FormsLeft rules cs all now) is so_far (category ∷ rest) (rest, h, inl (has.0, refl)))
forms_go_on rules category all left after now next is so_far (inr has) rest h =
    rw has.1 (subst (λ (cs : List PluralCategory). FormsLeft rules cs all now) is so_far rest (rest, h, inr (has.0, refl)))

pub forms_end : (rules : FiveRules) (all left now : List PluralCategory) → left ≡ [] → FormsLeft rules left all now
    → AreFormsOf rules all now
forms_end rules all left now none so_far =
    subst (AreFormsOf rules all) (append-nil now) (subst (λ (cs : List PluralCategory). FormsLeft rules cs all now) none so_far [] refl)

-- ---- Whether one of six has a category

pub six_match : (A B C D E F : Type 0) (a b c d e f : Bool) → MatchBool a A (¬ A) → MatchBool b B (¬ B) → MatchBool c C (¬ C)
    → MatchBool d D (¬ D) → MatchBool e E (¬ E) → MatchBool f F (¬ F)
    → MatchBool (((((a || b) || c) || d) || e) || f) (A ⊎ (B ⊎ (C ⊎ (D ⊎ (E ⊎ (F ⊎ ⊥)))))) (¬ (A ⊎ (B ⊎ (C ⊎ (D ⊎ (E ⊎ (F ⊎ ⊥)))))))
six_match A B C D E F true b c d e f p q r s t u = inl p
six_match A B C D E F false true c d e f p q r s t u = inr (inl q)
six_match A B C D E F false false true d e f p q r s t u = inr (inr (inl r))
six_match A B C D E F false false false true e f p q r s t u = inr (inr (inr (inl s)))
six_match A B C D E F false false false false true f p q r s t u = inr (inr (inr (inr (inl t))))
six_match A B C D E F false false false false false true p q r s t u = inr (inr (inr (inr (inr (inl u)))))
six_match A B C D E F false false false false false false p q r s t u = λ h. elim h as (λ _. ⊥) [
  | inl x ↦ p x
  | inr g ↦ elim g as (λ _. ⊥) [
    | inl x ↦ q x
    | inr g ↦ elim g as (λ _. ⊥) [
      | inl x ↦ r x
      | inr g ↦ elim g as (λ _. ⊥) [
        | inl x ↦ s x
        | inr g ↦ elim g as (λ _. ⊥) [
          | inl x ↦ t x
          | inr g ↦ elim g as (λ _. ⊥) [
            | inl x ↦ u x
            | inr x ↦ x
          ]
        ]
      ]
    ]
  ]
]

-- whether a power or a number below the limit has it
pub power_match : (rules : FiveRules) (category : PluralCategory) (least : Option ℕ) (power : Bool) → IsLeastFrom rules category 0 least
    → is_some least ≡ false → MatchBool power (SomeHas rules category tried_powers) (¬ (SomeHas rules category tried_powers))
    → MatchBool power (HasForm rules category) (¬ (HasForm rules category))
power_match rules category (Some n) power is none has = absurd (true≢false none)
power_match rules category None true is none has = inr has
power_match rules category None false is none has = λ h. elim h as (λ _. ⊥) [
  | inl below ↦ is below.0 (omega arith) below.1 below.2
  | inr other ↦ has other
]

-- ---- The expression

-- the condition of a form that isn't the last
pub condition_next : (rules : FiveRules) (forms : List PluralCategory) (i : ℕ) (d : PluralCategory) → i + 1 < length forms
    → conditions_of rules (drop i forms) ≡ condition_if (rule_for rules (get_or forms i d)) ∷ conditions_of rules (drop (i + 1) forms)
condition_next rules forms i d within =
    let next : i + 1 ≡ suc i = omega arith in
    let first : drop i forms ≡ get_or forms i d ∷ drop (suc i) forms = drop-cons forms i d (omega arith) in
    let second : drop (suc i) forms ≡ get_or forms (suc i) d ∷ drop (suc (suc i)) forms = drop-cons forms (suc i) d (omega arith) in
    rw (next, first, second) refl

no_condition : (rules : FiveRules) (forms : List PluralCategory) → length forms ≤ 1 → conditions_of rules forms ≡ []
no_condition rules [] short = refl
no_condition rules (form ∷ []) short = refl
no_condition rules (form ∷ next ∷ forms) short = absurd (omega arith)

-- the last form has none
pub conditions_end : (rules : FiveRules) (forms : List PluralCategory) (last : ℕ) → length forms ≤ last + 1
    → conditions_of rules (drop last forms) ≡ []
conditions_end rules forms last end = no_condition rules (drop last forms) (omega (arith, length-drop last forms))

four_parts : (old c a p b rest : List ℕ) → (old ++ (c ++ (a ++ (p ++ b)))) ++ rest ≡ old ++ (c ++ (a ++ (p ++ (b ++ rest))))
four_parts old c a p b rest = simp append_assoc

-- one more choice
pub choice_grown : (rules : FiveRules) (forms : List PluralCategory) (i : ℕ) (form : PluralCategory) (old choice new : List ℕ)
    → i + 1 < length forms → get_or forms i form ≡ form
    → old ++ choice_text i (conditions_of rules (drop i forms)) ≡ choice_text 0 (conditions_of rules forms)
    → choice ≡ c_condition_text (condition_if (rule_for rules form)) ++ (codes " ? " ++ (decimal i ++ codes " : ")) → new ≡ old ++ choice
    → new ++ choice_text (i + 1) (conditions_of rules (drop (i + 1) forms)) ≡ choice_text 0 (conditions_of rules forms)
choice_grown rules forms i form old choice new within is so_far chosen grown =
    let rest = choice_text (i + 1) (conditions_of rules (drop (i + 1) forms)) in
    let condition = c_condition_text (condition_if (rule_for rules form)) in
    let here : conditions_of rules (drop i forms) ≡ condition_if (rule_for rules form) ∷ conditions_of rules (drop (i + 1) forms) =
    condition_next rules forms i form within
    ∙ ap (λ (c : PluralCategory). condition_if (rule_for rules c) ∷ conditions_of rules (drop (i + 1) forms)) is in
    rw (grown, chosen) (four_parts old condition (codes " ? ") (decimal i) (codes " : ") rest)
    ∙ ap (λ cs. old ++ choice_text i cs) (sym here) ∙ so_far

-- the last place
pub choice_ended : (rules : FiveRules) (forms : List PluralCategory) (last : ℕ) (old end new : List ℕ) → length forms ≤ last + 1
    → old ++ choice_text last (conditions_of rules (drop last forms)) ≡ choice_text 0 (conditions_of rules forms)
    → end ≡ decimal last → new ≡ old ++ end → new ≡ choice_text 0 (conditions_of rules forms)
choice_ended rules forms last old end new short so_far is grown =
    rw (grown, is) (ap (λ cs. old ++ choice_text last cs) (sym (conditions_end rules forms last short)) ∙ so_far)

-- ---- What the expression means

-- the rule of a category is true of a whole number
abbrev passes_at : FiveRules → ℕ → PluralCategory → Bool
passes_at rules n category = passes (packed_truth (of_whole n)) (rule_for rules category)

condition_passes : (n : ℕ) (rule : Option (List PackedRelation))
    → condition_value n (condition_if rule) ≡ passes (packed_truth (of_whole n)) rule
condition_passes n None = refl
condition_passes n (Some relations) = condition_values relations n

-- the first of some categories whose rule is true, else the last
abbrev first_of : (PluralCategory → Bool) → List PluralCategory → PluralCategory
first_of test [] = Other
first_of test (category ∷ []) = category
first_of test (category ∷ next ∷ categories) = if test category then category else first_of test (next ∷ categories)

absent_fails : (n : ℕ) (rule : Option (List PackedRelation)) → is_some rule ≡ false → passes (packed_truth (of_whole n)) rule ≡ false
absent_fails n None absent = refl
absent_fails n (Some relations) absent = absurd (true≢false absent)

-- a list has a category
abbrev has_one : List PluralCategory → Bool
has_one [] = false
has_one (category ∷ categories) = true

one_listed : (category : PluralCategory) (there : Bool) (rest : List PluralCategory) → has_one rest ≡ true
    → has_one (listed category there ++ rest) ≡ true
one_listed category true rest one = refl
one_listed category false rest one = one

-- a category whose rule isn't there is never the first
first_listed : (test : PluralCategory → Bool) (category : PluralCategory) (there : Bool) (rest : List PluralCategory)
    → has_one rest ≡ true → (there ≡ false → test category ≡ false)
    → first_of test (listed category there ++ rest) ≡ (if test category then category else first_of test rest)
first_listed test category there [] one absent = absurd (true≢false (sym one))
first_listed test category true (next ∷ rest) one absent = refl
first_listed test category false (next ∷ rest) one absent = rw (absent refl) refl

six_lists : (z o t f m l : List PluralCategory) → ((((z ++ o) ++ t) ++ f) ++ m) ++ l ≡ z ++ (o ++ (t ++ (f ++ (m ++ l))))
six_lists z o t f m l = simp append_assoc

-- the category of a whole number is the first of those that the language has
first_whole : (rules : FiveRules) (n : ℕ) → first_of (passes_at rules n) (categories_of rules) ≡ whole_category rules n
first_whole rules n =
    let test = passes_at rules n in
    let z = listed Zero (is_some rules.zero) in
    let o = listed One (is_some rules.one) in
    let t = listed Two (is_some rules.two) in
    let f = listed Few (is_some rules.few) in
    let m = listed Many (is_some rules.many) in
    let l = Other ∷ [] in
    let m_one = one_listed Many (is_some rules.many) l refl in
    let f_one = one_listed Few (is_some rules.few) (m ++ l) m_one in
    let t_one = one_listed Two (is_some rules.two) (f ++ (m ++ l)) f_one in
    let o_one = one_listed One (is_some rules.one) (t ++ (f ++ (m ++ l))) t_one in
    ap (first_of test) (six_lists z o t f m l)
    ∙ first_listed test Zero (is_some rules.zero) (o ++ (t ++ (f ++ (m ++ l)))) o_one (absent_fails n rules.zero)
    ∙ ap (λ (c : PluralCategory). if test Zero then Zero else c)
    (first_listed test One (is_some rules.one) (t ++ (f ++ (m ++ l))) t_one (absent_fails n rules.one)
    ∙ ap (λ (c : PluralCategory). if test One then One else c)
    (first_listed test Two (is_some rules.two) (f ++ (m ++ l)) f_one (absent_fails n rules.two)
    ∙ ap (λ (c : PluralCategory). if test Two then Two else c)
    (first_listed test Few (is_some rules.few) (m ++ l) m_one (absent_fails n rules.few)
    ∙ ap (λ (c : PluralCategory). if test Few then Few else c)
    (first_listed test Many (is_some rules.many) l refl (absent_fails n rules.many)))))

has_last : (front : List PluralCategory) → has_one (front ++ Other ∷ []) ≡ true
has_last [] = refl
has_last (category ∷ front) = refl

none_some : {x : PluralCategory} → None ≡ Some x → ⊥
none_some e = cc

has_one_category : (rules : FiveRules) → has_one (categories_of rules) ≡ true
has_one_category rules = has_last
    ((((listed Zero (is_some rules.zero) ++ listed One (is_some rules.one)) ++ listed Two (is_some rules.two))
    ++ listed Few (is_some rules.few))
    ++ listed Many (is_some rules.many))

-- the form at the value of the expression is the category
abbrev Found : FiveRules → ℕ → List PluralCategory → ℕ → Type 0
Found rules n forms place =
    (k : ℕ) × (choice_value place n (conditions_of rules forms) ≡ place + k) × (slice_get forms k ≡ Some (whole_category rules n))

value_here : (rules : FiveRules) (n : ℕ) (c : PluralCategory) (rest : List PluralCategory) (place : ℕ) → passes_at rules n c ≡ true
    → choice_value place n (conditions_of rules (c ∷ rest)) ≡ place
value_here rules n c [] place is = refl
value_here rules n c (r ∷ rest) place is = rw (condition_passes n (rule_for rules c), is) refl

value_later : (rules : FiveRules) (n : ℕ) (c r : PluralCategory) (rest : List PluralCategory) (place : ℕ) → passes_at rules n c ≡ false
    → choice_value place n (conditions_of rules (c ∷ r ∷ rest)) ≡ choice_value (place + 1) n (conditions_of rules (r ∷ rest))
value_later rules n c r rest place is = rw (condition_passes n (rule_for rules c), is) refl

found_here : (rules : FiveRules) (n : ℕ) (c : PluralCategory) (rest : List PluralCategory) (place : ℕ) → passes_at rules n c ≡ true
    → c ≡ whole_category rules n → Found rules n (c ∷ rest) place
found_here rules n c rest place is first =
    (0, value_here rules n c rest place is ∙ omega arith, ap (λ (x : PluralCategory). Some x) first)

get_next : (c : PluralCategory) (forms : List PluralCategory) (k : ℕ) → slice_get (c ∷ forms) (k + 1) ≡ slice_get forms k
get_next c forms k = rw add-one refl

found_later : (rules : FiveRules) (n : ℕ) (c : PluralCategory) (rest : List PluralCategory) (place : ℕ) → passes_at rules n c ≡ false
    → Found rules n rest (place + 1) → Found rules n (c ∷ rest) place
found_later rules n c [] place is found = absurd (none_some found.2)
found_later rules n c (r ∷ rest) place is found =
    let sum : (place + 1) + found.0 ≡ place + (found.0 + 1) = omega arith in
    (found.0 + 1, value_later rules n c r rest place is ∙ found.1 ∙ sum, get_next c (r ∷ rest) found.0 ∙ found.2)

found_step : (rules : FiveRules) (n : ℕ) (c d : PluralCategory) (ds forms rest : List PluralCategory) (place : ℕ) (b : Bool)
    → passes_at rules n c ≡ b → HasForm rules (whole_category rules n)
    → (HasForm rules c × (forms ≡ c ∷ rest)) ⊎ (¬ (HasForm rules c) × (forms ≡ rest))
    → (if b then c else first_of (passes_at rules n) (d ∷ ds)) ≡ whole_category rules n
    → ((p : ℕ) → first_of (passes_at rules n) (d ∷ ds) ≡ whole_category rules n → Found rules n rest p) → Found rules n forms place
found_step rules n c d ds forms rest place true is has (inl own) first after = rw own.1 (found_here rules n c rest place is first)
found_step rules n c d ds forms rest place true is has (inr own) first after = absurd (own.0 (subst (HasForm rules) (sym first) has))
found_step rules n c d ds forms rest place false is has (inl own) first after =
    rw own.1 (found_later rules n c rest place is (after (place + 1) first))
found_step rules n c d ds forms rest place false is has (inr own) first after = rw own.1 (after place first)

found_last : (rules : FiveRules) (n : ℕ) (c : PluralCategory) (forms rest : List PluralCategory) (place : ℕ)
    → HasForm rules (whole_category rules n) → rest ≡ []
    → (HasForm rules c × (forms ≡ c ∷ rest)) ⊎ (¬ (HasForm rules c) × (forms ≡ rest)) → c ≡ whole_category rules n
    → Found rules n forms place
found_last rules n c forms rest place has none (inl own) first =
    rw (own.1, none) (0, omega arith, ap (λ (x : PluralCategory). Some x) first)
found_last rules n c forms rest place has none (inr own) first = absurd (own.0 (subst (HasForm rules) (sym first) has))

found_from : (rules : FiveRules) (n : ℕ) (categories forms : List PluralCategory) (place : ℕ) → AreFormsOf rules categories forms
    → HasForm rules (whole_category rules n) → has_one categories ≡ true
    → first_of (passes_at rules n) categories ≡ whole_category rules n → Found rules n forms place
found_from rules n [] forms place are has one first = absurd (true≢false (sym one))
found_from rules n (c ∷ []) forms place are has one first = found_last rules n c forms are.0 place has are.1 are.2 first
found_from rules n (c ∷ d ∷ ds) forms place are has one first =
    found_step rules n c d ds forms are.0 place (passes_at rules n c) refl has are.2 first
    (λ p later. found_from rules n (d ∷ ds) are.0 p are.1 has refl later)

pub forms_chosen : FormsAreChosen
forms_chosen rules forms n are has =
    let found = found_from rules n (categories_of rules) forms 0 are has (has_one_category rules) (first_whole rules n) in
    let value : choice_value 0 n (conditions_of rules forms) ≡ found.0 = found.1 ∙ omega arith in
    ap (slice_get forms) value ∙ found.2

-- ---- The rules of a language

-- they are those of its value
pub found_language : (document : Data) (part : Part) (locale : List ℕ) (first : Result (List ℕ) FallbackError) (language : LanguageRules)
    → IsFoundUnderKey document part locale first (Ok language) → rules_of_json (view language.value.now) ≡ Ok language.rules
found_language document part locale (Ok key) language found = found.2
found_language document part locale (Err reason) language found = absurd (cc found)

pub one_rules : (value : Stands FiveRules) (x y : FiveRules) → value ≡ Ok x → value ≡ Ok y → x ≡ y
one_rules value x y first second = cc
