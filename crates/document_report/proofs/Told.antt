-- The faults of one text, fault by fault.
use Rattle.std.proofs.Common.{◌≡◌, ◌≢◌, ℕ, ◌+◌, ◌<◌, ◌≤◌, ◌==◌, Bool, true, false, List, [], ◌∷◌, ◌++◌, length, get_or, take, map}
use Rattle.std.proofs.Common.{refl, sym, ap, subst, ◌∙◌, arith}
use Rattle.std.specs.Prelude.{nat_lt, if◌then◌else◌}
use Rattle.std.proofs.lemmas.Bool.{ne_eqb}
use Rattle.std.proofs.lemmas.Grind.{common_steps}
use Rattle.std.proofs.lemmas.List.{append-nil, length-append, map-append, take_all, take_more, take-append-le}
use Rattle.std.proofs.lemmas.List.Elements.{filter-append}
use Rattle.std.proofs.Math.Nat.{zero-add}
use Rattle.icu_plurals.specs.declared.PluralCategory.{PluralCategory}
use Rattle.icu_plurals.specs.declared.PluralCategory.TheVariants.{Zero, One, Two, Few, Many, Other}
use Rattle.icu_plurals.specs.Categories.{place_of}
use Rattle.plural_checker.specs.declared.Fault.{Fault}
use Rattle.document_report.specs.DocumentFindings.{Finding}
use Rattle.document_report.specs.DocumentPlaces.{LocalePlace, at_text}
use Rattle.document_report.specs.DocumentReport.{faults_of, found_told, text_finding}
use Rattle.plural_documents.specs.PrintedKeys.{most_told}
use Rattle.document_report.specs.FoundInDocuments.{Found, faults_alone, findings_alone, rest_of, together}
use Rattle.document_report.specs.Inner.CheckCalls.{told_after}
use Rattle.document_report.proofs.FoundTogether.{together_assoc}

-- ---- Which faults are of a text

-- the category at a place
abbrev at_place : ℕ → PluralCategory
at_place place =
    if place == 0 then Zero
    else (if place == 1 then One
    else (if place == 2 then Two else (if place == 3 then Few else (if place == 4 then Many else Other))))

is_at_place : (category : PluralCategory) → at_place (place_of category) ≡ category
is_at_place Zero = refl
is_at_place One = refl
is_at_place Two = refl
is_at_place Few = refl
is_at_place Many = refl
is_at_place Other = refl

-- the test of a fault of the category, and of any other
same_place : (a b : PluralCategory) → a ≡ b → (place_of a == place_of b) ≡ true
same_place a b e = subst (λ (c : PluralCategory). (place_of a == place_of c) ≡ true) e (of_itself a)
  where
    of_itself : (c : PluralCategory) → (place_of c == place_of c) ≡ true
    of_itself Zero = refl
    of_itself One = refl
    of_itself Two = refl
    of_itself Few = refl
    of_itself Many = refl
    of_itself Other = refl

other_place : (a b : PluralCategory) → a ≢ b → (place_of a == place_of b) ≡ false
other_place a b other =
    ne_eqb (place_of a) (place_of b) (λ same. other (sym (is_at_place a) ∙ ap at_place same ∙ is_at_place b))

-- a fault of the category is one more
pub one_of : (category : PluralCategory) (faults : List Fault) (i : ℕ) (fault : Fault) → i < length faults
    → fault ≡ get_or faults i fault → fault.category ≡ category
    → faults_of category (take (i + 1) faults) ≡ faults_of category (take i faults) ++ fault ∷ []
one_of category faults i fault within is same =
    ap (faults_of category) (take_more faults i fault within ∙ ap (λ (f : Fault). take i faults ++ f ∷ []) (sym is))
    ∙ filter-append (λ (f : Fault). place_of f.category == place_of category) (take i faults) (fault ∷ [])
    ∙ ap (λ l. faults_of category (take i faults) ++ l) (kept (same_place fault.category category same))
  where
    kept : (place_of fault.category == place_of category) ≡ true → faults_of category (fault ∷ []) ≡ fault ∷ []
    kept e = rw e refl

-- any other is none
pub none_of : (category : PluralCategory) (faults : List Fault) (i : ℕ) (fault : Fault) → i < length faults
    → fault ≡ get_or faults i fault → fault.category ≢ category
    → faults_of category (take (i + 1) faults) ≡ faults_of category (take i faults)
none_of category faults i fault within is other =
    ap (faults_of category) (take_more faults i fault within ∙ ap (λ (f : Fault). take i faults ++ f ∷ []) (sym is))
    ∙ filter-append (λ (f : Fault). place_of f.category == place_of category) (take i faults) (fault ∷ [])
    ∙ ap (λ l. faults_of category (take i faults) ++ l) (dropped (other_place fault.category category other))
    ∙ append-nil (faults_of category (take i faults))
  where
    dropped : (place_of fault.category == place_of category) ≡ false → faults_of category (fault ∷ []) ≡ []
    dropped e = rw e refl

-- ---- The findings of the first ones

-- the findings of the first faults
abbrev pub told_findings : LocalePlace → List Fault → List Finding
told_findings place faults = map (text_finding place) (take most_told faults)

-- one fault more has its finding, if few enough come before it
pub told_more : (place : LocalePlace) (faults : List Fault) (fault : Fault)
    → told_findings place (faults ++ fault ∷ []) ≡ told_findings place faults ++ told_after place (length faults) fault
told_more place faults fault = by (nat_lt (length faults) most_told) refl
  where
    by : (few : Bool) → nat_lt (length faults) most_told ≡ few
        → told_findings place (faults ++ fault ∷ []) ≡ told_findings place faults ++ told_after place (length faults) fault
    by true few =
        let short : length faults + 1 ≤ most_told = grind (arith, common_steps, few) in
        let whole : length (faults ++ fault ∷ []) ≤ most_told = omega (arith, length-append faults (fault ∷ [])) in
        rw few (ap (map (text_finding place)) (take_all most_told (faults ++ fault ∷ []) whole)
        ∙ map-append (text_finding place) faults (fault ∷ [])
        ∙ ap (λ l. map (text_finding place) l ++ text_finding place fault ∷ []) (sym (take_all most_told faults (omega arith))))
    by false few =
        rw few (ap (map (text_finding place)) (take-append-le most_told faults (fault ∷ []) (grind (arith, common_steps, few)))
        ∙ sym (append-nil (told_findings place faults)))

-- the findings so far, and that of the next fault
pub next_told : (place : LocalePlace) (mine more : List Fault) (fault : Fault) (count : ℕ) (first now next : Found)
    → more ≡ mine ++ fault ∷ [] → count ≡ length mine
    → now ≡ together first (findings_alone (told_findings place mine))
    → next ≡ together now (findings_alone (told_after place count fault))
    → next ≡ together first (findings_alone (told_findings place more))
next_told place mine more fault count first now next is counted so_far step =
    step
    ∙ ap (λ (f : Found). together f (findings_alone (told_after place count fault))) so_far
    ∙ together_assoc first (findings_alone (told_findings place mine)) (findings_alone (told_after place count fault))
    ∙ ap (λ (l : List Finding). together first (findings_alone l))
    (ap (λ n. told_findings place mine ++ told_after place n fault) counted
    ∙ sym (told_more place mine fault) ∙ ap (told_findings place) (sym is))

-- with the finding that counts those that aren't told, and the count of all
pub all_told : (place : LocalePlace) (category : PluralCategory) (mine : List Fault) (count : ℕ) (first now rest next : Found)
    → count ≡ length mine
    → now ≡ together first (findings_alone (told_findings place mine))
    → rest ≡ together now (findings_alone (rest_of (at_text place category) count))
    → next ≡ together rest (faults_alone count)
    → next ≡ together first (found_told place category mine)
all_told place category mine count first now rest next counted so_far more all =
    all
    ∙ ap (λ (f : Found). together f (faults_alone count))
    (more ∙ ap (λ (f : Found). together f (findings_alone (rest_of (at_text place category) count))) so_far)
    ∙ together_assoc (together first (findings_alone (told_findings place mine))) (findings_alone (rest_of (at_text place category) count))
    (faults_alone count)
    ∙ together_assoc first (findings_alone (told_findings place mine))
    (together (findings_alone (rest_of (at_text place category) count)) (faults_alone count))
    ∙ ap (λ (f : Found). together first f) joined
  where
    joined : together (findings_alone (told_findings place mine))
        (together (findings_alone (rest_of (at_text place category) count)) (faults_alone count))
        ≡ found_told place category mine
    joined = rw (counted, append-nil (rest_of (at_text place category) (length mine)), zero-add (length mine), zero-add (length mine)) refl
