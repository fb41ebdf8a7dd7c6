-- Findings of a pattern, told one after the other.
use Rattle.std.proofs.Common.{◌≡◌, ℕ, zero, suc, ◌+◌, ◌-◌, ◌<◌, ◌≤◌, Bool, true, false, List, [], ◌∷◌, ◌++◌, length, take, drop, get_or}
use Rattle.std.proofs.Common.{refl, sym, ap, subst, ◌∙◌, arith, append_assoc}
use Rattle.std.specs.Prelude.{nat_lt, Result, Ok, Err, IfOk}
use Rattle.std.proofs.Math.Nat.{add-zero, zero-add}
use Rattle.std.proofs.Math.Seq.{take-nil}
use Rattle.std.proofs.lemmas.Bool.{ltb-true, ltb-false}
use Rattle.std.proofs.lemmas.Bool.Decides.{nat_tests}
use Rattle.std.proofs.lemmas.List.{append-nil, length-append, length-take-le, take_all, take-append-le}
use Rattle.message_pattern.specs.PatternParts.{Selector}
use Rattle.message_report.specs.FindingCauses.{severity_of}
use Rattle.message_report.specs.FoundInMessages.{MessageFound, count_faults, count_notes, counted_alone, faults_of_severity, message_findings_alone}
use Rattle.message_report.specs.FoundInMessages.{one_finding, further_message_faults, messages_together}
use Rattle.message_report.specs.Inner.ToldFindings.{TellsFindings, count_findings, count_next, remembered, told_findings, told_next}
use Rattle.message_report.specs.MessageFindings.{MessageFinding}
use Rattle.message_report.specs.MessagePlaces.{FilePatternPlace, at_pattern}
use Rattle.message_report.specs.MessagesReport.{count_told, found_of_findings, most_compared}
use Rattle.plural_documents.specs.PrintedKeys.{most_told}
use Rattle.message_report.proofs.MessagesFound.{none_added, nothing-together, messages_together-nothing, messages_together_assoc}

-- the first part and the rest
pub headed : {A : Type 0} (ps : List A) (d : A) (n : ℕ) → 1 ≤ length ps → n ≡ length ps → ps ≡ get_or ps 0 d ∷ take (n - 1) (drop 1 ps)
headed {A} [] d n h e = absurd (omega arith)
headed {A} (p ∷ ps) d n h e = ap (λ (l : List A). p ∷ l) (sym (take_all (n - 1) ps (omega arith)))

-- none is left
pub none_left : {A : Type 0} (ps : List A) → length ps < 1 → ps ≡ []
none_left {A} [] h = refl
none_left {A} (p ∷ ps) h = absurd (omega arith)

-- nothing is told
pub tells_none : (before : ℕ) (old : MessageFound) → TellsFindings before old before old []
tells_none before old = record { found = none_added old; counted = refl }

-- what is told first, and what is told then
told_both : (before : ℕ) (xs ys : List MessageFinding)
    → messages_together (told_findings before xs) (told_findings (count_findings before xs) ys) ≡ told_findings before (xs ++ ys)
told_both before [] ys = nothing-together (told_findings before ys)
told_both before (x ∷ xs) ys =
    let middle = count_next before x in
    messages_together_assoc (told_next before x) (told_findings middle xs) (told_findings (count_findings middle xs) ys)
    ∙ ap (λ (f : MessageFound). messages_together (told_next before x) f) (told_both middle xs ys)

counted_both : (before : ℕ) (xs ys : List MessageFinding) → count_findings (count_findings before xs) ys ≡ count_findings before (xs ++ ys)
counted_both before [] ys = refl
counted_both before (x ∷ xs) ys = counted_both (count_next before x) xs ys

pub tells_both : (before : ℕ) (old : MessageFound) (middle : ℕ) (now : MessageFound) (count : ℕ) (new : MessageFound) (xs ys : List MessageFinding)
    → TellsFindings before old middle now xs → TellsFindings middle now count new ys → TellsFindings before old count new (xs ++ ys)
tells_both before old middle now count new xs ys first then_ = record {
  found =
      then_.found
      ∙ ap (λ (f : MessageFound). messages_together f (told_findings middle ys)) first.found
      ∙ messages_together_assoc old (told_findings before xs) (told_findings middle ys)
      ∙ ap (λ (n : ℕ). messages_together old (messages_together (told_findings before xs) (told_findings n ys))) first.counted
      ∙ ap (λ (f : MessageFound). messages_together old f) (told_both before xs ys);
  counted = then_.counted ∙ ap (λ (n : ℕ). count_findings n ys) first.counted ∙ counted_both before xs ys;
}

-- one is told
pub tells_finding : (before : ℕ) (old : MessageFound) (count : ℕ) (new : MessageFound) (finding : MessageFinding) → before < most_told
    → new ≡ messages_together old (one_finding finding) → count ≡ before + 1 → TellsFindings before old count new (finding ∷ [])
tells_finding before old count new finding few told counted = record {
  found = told ∙ ap (λ (f : MessageFound). messages_together old f) (rw test (sym (messages_together-nothing (one_finding finding))));
  counted = counted ∙ rw test refl;
}
  where
    test : nat_lt before most_told ≡ true
    test = grind (arith, nat_tests)

-- or only counted
pub tells_count : (before : ℕ) (old : MessageFound) (count : ℕ) (new : MessageFound) (finding : MessageFinding) → most_told ≤ before
    → new ≡ messages_together old (counted_alone (severity_of finding.cause)) → count ≡ before + faults_of_severity (severity_of finding.cause)
    → TellsFindings before old count new (finding ∷ [])
tells_count before old count new finding many told counted = record {
  found = told ∙ ap (λ (f : MessageFound). messages_together old f) (rw test (sym (messages_together-nothing (counted_alone (severity_of finding.cause)))));
  counted = counted ∙ rw test refl;
}
  where
    test : nat_lt before most_told ≡ false
    test = grind (arith, nat_tests)

-- ---- All at once

drop_nil : (n : ℕ) → drop {A = MessageFinding} n [] ≡ []
drop_nil zero = refl
drop_nil (suc n) = refl

-- so many come before these
abbrev closed : ℕ → List MessageFinding → MessageFound
closed before findings = record {
  findings = take (most_told - before) findings;
  faults = count_faults findings;
  notes = count_notes findings;
  messages = 0;
  forms = 0;
}

told_is : (before : ℕ) (findings : List MessageFinding) → told_findings before findings ≡ closed before findings
told_is before [] = rw (take-nil {A = MessageFinding} (most_told - before)) refl
told_is before (f ∷ fs) = by (nat_lt before most_told) refl (λ (n : ℕ). told_is n fs)
  where
    by : (few : Bool) → nat_lt before most_told ≡ few → ((n : ℕ) → told_findings n fs ≡ closed n fs)
        → told_findings before (f ∷ fs) ≡ closed before (f ∷ fs)
    by true few rest =
        let low : before < most_told = ltb-true before most_told few in
        let left : most_told - before ≡ suc (most_told - (before + 1)) = omega arith in
        rw few (ap (λ (g : MessageFound). messages_together (one_finding f) g) (rest (before + 1)) ∙ rw left refl)
    by false many rest =
        let high : most_told ≤ before = ltb-false before most_told many in
        let after = before + faults_of_severity (severity_of f.cause) in
        let none : most_told - before ≡ 0 = omega arith in
        let none_after : most_told - (before + faults_of_severity (severity_of f.cause)) ≡ 0 = omega arith in
        rw many
        (ap (λ (g : MessageFound). messages_together (counted_alone (severity_of f.cause)) g) (rest after) ∙ rw (none, none_after) refl)

counted_is : (before : ℕ) (findings : List MessageFinding)
    → count_findings before findings
    ≡ before + (length (take (most_told - before) findings) + count_faults (drop (most_told - before) findings))
counted_is before [] = rw (take-nil {A = MessageFinding} (most_told - before), drop_nil (most_told - before)) (sym (add-zero before))
counted_is before (f ∷ fs) = by (nat_lt before most_told) refl (λ (n : ℕ). counted_is n fs)
  where
    by : (few : Bool) → nat_lt before most_told ≡ few
        → ((n : ℕ) → count_findings n fs ≡ n + (length (take (most_told - n) fs) + count_faults (drop (most_told - n) fs)))
        → count_findings before (f ∷ fs)
        ≡ before + (length (take (most_told - before) (f ∷ fs)) + count_faults (drop (most_told - before) (f ∷ fs)))
    by true few rest =
        let low : before < most_told = ltb-true before most_told few in
        let m = most_told - (before + 1) in
        let left : most_told - before ≡ suc (most_told - (before + 1)) = omega arith in
        let more : before + 1 + (length (take m fs) + count_faults (drop m fs))
        ≡ before + (suc (length (take m fs)) + count_faults (drop m fs)) =
        omega arith in
        rw few (rest (before + 1) ∙ rw left more)
    by false many rest =
        let high : most_told ≤ before = ltb-false before most_told many in
        let n = faults_of_severity (severity_of f.cause) in
        let none : most_told - before ≡ 0 = omega arith in
        let none_after : most_told - (before + faults_of_severity (severity_of f.cause)) ≡ 0 = omega arith in
        let more : before + n + (0 + count_faults fs) ≡ before + (0 + (n + count_faults fs)) = omega arith in
        rw many (rest (before + n) ∙ rw (none, none_after) more)

-- at the end the rest is
pub all_findings : (place : FilePatternPlace) (findings : List MessageFinding) (count : ℕ) (first now new : MessageFound) → TellsFindings 0 first count now findings
    → new ≡ messages_together now (message_findings_alone (further_message_faults (at_pattern place) count)) → new ≡ messages_together first (found_of_findings place findings)
all_findings place findings count first now new told rest =
    rest
    ∙ ap (λ (f : MessageFound). messages_together f (message_findings_alone (further_message_faults (at_pattern place) count))) told.found
    ∙ messages_together_assoc first (told_findings 0 findings) (message_findings_alone (further_message_faults (at_pattern place) count))
    ∙ ap (λ (f : MessageFound). messages_together first f) joined
  where
    same : count ≡ count_told findings
    same = told.counted ∙ counted_is 0 findings ∙ zero-add (count_told findings)

    joined : messages_together (told_findings 0 findings) (message_findings_alone (further_message_faults (at_pattern place) count)) ≡ found_of_findings place findings
    joined = rw (same, told_is 0 findings, add-zero (count_faults findings), add-zero (count_notes findings)) refl

-- ---- In a loop

-- these were told, and with the remaining ones they are all
abbrev pub Going : ℕ → MessageFound → ℕ → MessageFound → List MessageFinding → List MessageFinding → Type 0
Going before old count now rest all = (told : List MessageFinding) × TellsFindings before old count now told × (told ++ rest ≡ all)

pub starts : (before : ℕ) (old : MessageFound) (all : List MessageFinding) → Going before old before old all all
starts before old all = ([], tells_none before old, refl)

pub continues : (before : ℕ) (old : MessageFound) (count : ℕ) (now : MessageFound) (next : ℕ) (new : MessageFound) (xs rest whole all : List MessageFinding)
    → whole ≡ xs ++ rest → Going before old count now whole all → TellsFindings count now next new xs → Going before old next new rest all
continues before old count now next new xs rest whole all parts so_far more = (
  so_far.0 ++ xs,
  tells_both before old count now next new so_far.0 xs so_far.1 more,
  append_assoc so_far.0 xs rest ∙ ap (λ (l : List MessageFinding). so_far.0 ++ l) (sym parts) ∙ so_far.2,
)

pub completes : (before : ℕ) (old : MessageFound) (count : ℕ) (now : MessageFound) (rest all : List MessageFinding) → rest ≡ []
    → Going before old count now rest all → TellsFindings before old count now all
completes before old count now rest all none so_far =
    subst (λ (l : List MessageFinding). TellsFindings before old count now l)
    (sym (append-nil so_far.0) ∙ ap (λ (l : List MessageFinding). so_far.0 ++ l) (sym none) ∙ so_far.2) so_far.1

-- ---- The selectors that are remembered

-- they are the first ones
pub remembers : (before seen : List Selector) (selector : Selector) → seen ≡ take most_compared before
    → remembered seen selector ≡ take most_compared (before ++ selector ∷ [])
remembers before seen selector same =
    ap (λ (l : List Selector). remembered l selector) same ∙ by (nat_lt (length before) most_compared) refl
  where
    by : (few : Bool) → nat_lt (length before) most_compared ≡ few
        → remembered (take most_compared before) selector ≡ take most_compared (before ++ selector ∷ [])
    by true few =
        let low : length before < most_compared = ltb-true (length before) most_compared few in
        let all : take most_compared before ≡ before = take_all most_compared before (omega arith) in
        let both : take most_compared (before ++ selector ∷ []) ≡ before ++ selector ∷ [] =
        take_all most_compared (before ++ selector ∷ []) (omega (arith, length-append before (selector ∷ []))) in
        rw (all, few, both) refl
    by false many =
        let high : most_compared ≤ length before = ltb-false (length before) most_compared many in
        let count : length (take most_compared before) ≡ most_compared = length-take-le most_compared before high in
        rw (count, take-append-le most_compared before (selector ∷ []) high) refl

-- ---- What a call tells

-- what is told first, and by the call
pub tells_if_ok : {E : Type 0} (before : ℕ) (old : MessageFound) (middle : ℕ) (now new : MessageFound) (xs ys : List MessageFinding) (r : Result ℕ E)
    → TellsFindings before old middle now xs → IfOk r (λ count. TellsFindings middle now count new ys)
    → IfOk r (λ count. TellsFindings before old count new (xs ++ ys))
tells_if_ok {E} before old middle now new xs ys (Ok count) first then_ = tells_both before old middle now count new xs ys first then_
tells_if_ok {E} before old middle now new xs ys (Err e) first then_ = tt
