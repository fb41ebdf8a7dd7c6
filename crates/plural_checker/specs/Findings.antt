-- What a check finds: faults in their order, and how many numbers were checked.
--     no_findings      no fault and no number
--     FindsBoth First Second found      what two checks find, the first's findings before the
--         second's
--     EachFinds Finds things found      what a check finds in each thing of a list, in the order of
--         the list
--     AddsFindings Finds old new      the report has grown by what a check finds
use Rattle.std.specs.Prelude.{◌≡◌, ◌⊎◌, ℕ, ◌+◌, ◌-◌, ◌^◌, ◌≤◌, List, [], ◌∷◌, ◌++◌}
use Rattle.plural_checker.specs.declared.fault.Fault.{Fault}
use Rattle.plural_checker.specs.declared.report.Report.{Report}

pub record Findings : Type 0 where
  pub faults : List Fault
  pub numbers : ℕ

abbrev pub no_findings : Findings
no_findings = record { faults = []; numbers = 0 }

-- one fault and no number
abbrev pub fault_alone : Fault → Findings
fault_alone fault = record { faults = fault ∷ []; numbers = 0 }

-- the faults of the first come before those of the second
abbrev pub both_findings : Findings → Findings → Findings
both_findings first second = record { faults = first.faults ++ second.faults; numbers = first.numbers + second.numbers }

abbrev pub FindsBoth : (Findings → Type 0) → (Findings → Type 0) → Findings → Type 0
FindsBoth First Second found = (first second : Findings) × First first × Second second × (found ≡ both_findings first second)

abbrev pub EachFinds : {A : Type 0} → (A → Findings → Type 0) → List A → Findings → Type 0
EachFinds Finds [] found = found ≡ no_findings
EachFinds Finds (x ∷ xs) found = FindsBoth (Finds x) (EachFinds Finds xs) found

-- ---- Reports

-- the largest count that a report can hold
abbrev pub most_counted : ℕ
most_counted = 2 ^ 64 - 1

-- the count is this number, or both_findings are at least the largest count
abbrev pub IsCountOf : ℕ → ℕ → Type 0
IsCountOf count many = (count ≡ many) ⊎ ((most_counted ≤ count) × (most_counted ≤ many))

-- the report has grown by what was found
abbrev pub GrowsBy : Report → Findings → Report → Type 0
GrowsBy old found new = (new.faults ≡ old.faults ++ found.faults) × IsCountOf new.numbers (old.numbers + found.numbers)

abbrev pub AddsFindings : (Findings → Type 0) → Report → Report → Type 0
AddsFindings Finds old new = (found : Findings) × Finds found × GrowsBy old found new

-- the report of what was found
abbrev pub IsReportOfFindings : Findings → Report → Type 0
IsReportOfFindings found report = (report.faults ≡ found.faults) × IsCountOf report.numbers found.numbers
