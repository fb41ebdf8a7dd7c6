-- Reports grow by one finding after the other.
use Rattle.std.proofs.Common.{◌≡◌, ◌⊎◌, ℕ, ◌+◌, ◌<◌, ◌≤◌, List, [], ◌∷◌, ◌++◌, length, take, get_or, refl, ap, sym, ◌∙◌}
use Rattle.std.proofs.Common.{subst, inl, inr, arith, append_assoc}
use Rattle.std.proofs.lemmas.List.{append-nil, take_more}
use Rattle.std.specs.Prelude.{Result, Ok, Err, IfOk, OnOk}
use Rattle.std.specs.Result.{result_and}
use Rattle.plural_checker.specs.Findings.{Findings, no_findings, fault_alone, both_findings, FindsBoth, EachFinds, most_counted, IsCountOf, GrowsBy, AddsFindings}
use Rattle.plural_checker.specs.Findings.{IsReportOfFindings}
use Rattle.plural_checker.specs.declared.fault.Fault.{Fault}
use Rattle.plural_checker.specs.declared.report.Report.{Report}

-- ---- Findings

-- findings with equal parts are equal
same_findings : (a b : Findings) → a.faults ≡ b.faults → a.numbers ≡ b.numbers → a ≡ b
same_findings a b faults numbers =
    ap (λ (l : List Fault). let f : Findings = record { faults = l; numbers = a.numbers } in f) faults
    ∙ ap (λ (n : ℕ). let f : Findings = record { faults = b.faults; numbers = n } in f) numbers

-- adding nothing changes nothing
both-nothing : (a : Findings) → both_findings a no_findings ≡ a
both-nothing a = same_findings (both_findings a no_findings) a (append-nil a.faults) (omega arith)

nothing-both : (a : Findings) → both_findings no_findings a ≡ a
nothing-both a = same_findings (both_findings no_findings a) a refl (omega arith)

both_assoc : (a b c : Findings) → both_findings (both_findings a b) c ≡ both_findings a (both_findings b c)
both_assoc a b c =
    same_findings (both_findings (both_findings a b) c) (both_findings a (both_findings b c)) (append_assoc a.faults b.faults c.faults) (omega arith)

-- one thing more at the end of a list
each-snoc : {A : Type 0} (Finds : A → Findings → Type 0) (xs : List A) (x : A) (a b : Findings)
    → EachFinds Finds xs a → Finds x b → EachFinds Finds (xs ++ x ∷ []) (both_findings a b)
each-snoc Finds [] x a b none here =
    (b, no_findings, here, refl, ap (λ f. both_findings f b) none ∙ nothing-both b ∙ sym (both-nothing b))
each-snoc Finds (y ∷ ys) x a b (first, rest, finds, each, is) here =
    (first, both_findings rest b, finds, each-snoc Finds ys x rest b each here, ap (λ f. both_findings f b) is ∙ both_assoc first rest b)

-- ---- Counts

-- adding to a capped count gives the capped count of the whole sum
counted_twice : (most a b c f g : ℕ)
    → (b ≡ a + f) ⊎ ((most ≤ b) × (most ≤ a + f)) → (c ≡ b + g) ⊎ ((most ≤ c) × (most ≤ b + g))
    → (c ≡ a + (f + g)) ⊎ ((most ≤ c) × (most ≤ a + (f + g)))
counted_twice most a b c f g (inl e) (inl d) = inl (omega arith)
counted_twice most a b c f g (inl e) (inr d) = inr (omega arith, omega arith)
counted_twice most a b c f g (inr e) (inl d) = inr (omega arith, omega arith)
counted_twice most a b c f g (inr e) (inr d) = inr (omega arith, omega arith)

-- ---- Reports

-- a report grows by nothing
pub grows_by_nothing : (a : Report) → GrowsBy a no_findings a
grows_by_nothing a = (sym (append-nil a.faults), inl (omega arith))

pub adds_nothing : (a : Report) → AddsFindings (λ found. found ≡ no_findings) a a
adds_nothing a = (no_findings, refl, grows_by_nothing a)

-- a report that grows twice grows by both_findings findings
grows_twice : (a b c : Report) (f g : Findings) → GrowsBy a f b → GrowsBy b g c → GrowsBy a (both_findings f g) c
grows_twice a b c f g (first, count) (second, more) = (
  second ∙ ap (λ l. l ++ g.faults) first ∙ append_assoc a.faults f.faults g.faults,
  counted_twice most_counted a.numbers b.numbers c.numbers f.numbers g.numbers count more,
)

-- two checks, one after the other
pub adds_both : (First Second : Findings → Type 0) (a b c : Report) → AddsFindings First a b → AddsFindings Second b c → AddsFindings (FindsBoth First Second) a c
adds_both First Second a b c (f, finds, grows) (g, more, grows_more) =
    (both_findings f g, (f, g, finds, more, refl), grows_twice a b c f g grows grows_more)

-- one thing more
pub adds_one_more : {A : Type 0} (Finds : A → Findings → Type 0) (xs : List A) (i : ℕ) (x : A) (a b c : Report) (found : Findings)
    → i < length xs → x ≡ get_or xs i x → AddsFindings (EachFinds Finds (take i xs)) a b → Finds x found → GrowsBy b found c
    → AddsFindings (EachFinds Finds (take (i + 1) xs)) a c
adds_one_more Finds xs i x a b c found within is (f, each, grows) finds grows_more =
    let more : take (i + 1) xs ≡ take i xs ++ x ∷ [] = take_more xs i x within ∙ ap (λ y. take i xs ++ y ∷ []) (sym is) in (
      both_findings f found,
      subst (λ l. EachFinds Finds l (both_findings f found)) (sym more) (each-snoc Finds (take i xs) x f found each finds),
      grows_twice a b c f found grows grows_more,
    )

-- one fault more, and the same count of numbers
pub grows_by_fault : (a c : Report) (fault : Fault) → c ≡ record a { faults = a.faults ++ fault ∷ [] } → GrowsBy a (fault_alone fault) c
grows_by_fault a c fault is =
    let counted : c.numbers ≡ a.numbers = ap (λ (r : Report). r.numbers) is in
    (ap (λ (r : Report). r.faults) is, inl (omega arith))

-- an empty report that grows is the report of what was found
pub reported : (a c : Report) (found : Findings) → a.faults ≡ [] → a.numbers ≡ 0 → GrowsBy a found c → IsReportOfFindings found c
reported a c found empty zero_counted (faults, counted) = (
  faults ∙ ap (λ l. l ++ found.faults) empty,
  subst (λ n. IsCountOf c.numbers n) (let e : a.numbers + found.numbers ≡ found.numbers = omega arith in e) counted,
)

-- the same if all that was found was added
pub reported_if_ok : {A E : Type 0} (added : Result A E) (Finds : Findings → Type 0) (a c : Report) → a.faults ≡ [] → a.numbers ≡ 0
    → OnOk added (AddsFindings Finds a c) → IfOk (result_and added (Ok c)) (λ report. (found : Findings) × Finds found × IsReportOfFindings found report)
reported_if_ok (Ok done) Finds a c empty zero_counted (found, finds, grows) = (found, finds, reported a c found empty zero_counted grows)
reported_if_ok (Err error) Finds a c empty zero_counted nothing = tt
