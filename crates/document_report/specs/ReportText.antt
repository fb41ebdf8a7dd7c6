-- The text of a report: a line for each finding, and one with the counts.
use Rattle.std.specs.Prelude.{ℕ, List, ◌++◌, codes}
use Rattle.std.specs.Fmt.{decimal}
use Rattle.std.specs.List.{flat_map}
use Rattle.plural_documents.specs.PrintedKeys.{ended_line}
use Rattle.document_report.specs.DocumentFindings.{Finding, finding_line}
use Rattle.document_report.specs.declared.counts.Counts.{Counts}
use Rattle.document_report.specs.declared.report.Report.{Report}

-- the line of a finding, with a newline
abbrev pub printed_finding : Finding → List ℕ
printed_finding finding = ended_line (finding_line finding)

-- `locales: 218, rules: 652, numbers: 14395, faults: 0`
abbrev pub counts_line : ℕ → ℕ → ℕ → ℕ → List ℕ
counts_line locales rules numbers faults =
    codes "locales: " ++ decimal locales ++ codes ", rules: " ++ decimal rules ++ codes ", numbers: " ++ decimal numbers
    ++ codes ", faults: " ++ decimal faults ++ codes "\n"

abbrev pub findings_in : Report → List Finding
findings_in report = report.found.findings

abbrev pub counts_in : Report → Counts
counts_in report = record {
  locales = report.locales;
  rules = report.found.checked;
  numbers = report.found.cases;
  faults = report.found.faults;
}

abbrev pub counts_of : Report → List ℕ
counts_of report = counts_line report.locales report.found.checked report.found.cases report.found.faults

abbrev pub report_text : Report → List ℕ
report_text report = flat_map printed_finding (findings_in report) ++ counts_of report
