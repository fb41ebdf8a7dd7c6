-- The text of the report of a file: the lines of the report of its document, each after the file's name.
use Rattle.std.specs.Prelude.{ℕ, List, ◌++◌, codes}
use Rattle.std.specs.List.{flat_map}
use Rattle.plural_documents.specs.PrintedKeys.{ended_line}
use Rattle.document_report.specs.DocumentFindings.{Finding, finding_line}
use Rattle.document_report.specs.ReportText.{counts_line, counts_in, findings_in}
use Rattle.document_report.specs.declared.counts.Counts.{Counts}
use Rattle.document_report.specs.declared.report.Report.{Report}

-- a text after the name of a file
abbrev pub after_name : List ℕ → List ℕ → List ℕ
after_name file text = file ++ (codes ": " ++ text)

-- `cldr.json: cardinal ru: no other`
abbrev pub finding_line_in : List ℕ → Finding → List ℕ
finding_line_in file f = after_name file (ended_line (finding_line f))

-- `cldr.json: locales: 1, rules: 1, numbers: 0, faults: 1`
abbrev pub counts_line_in : List ℕ → Counts → List ℕ
counts_line_in file counts = after_name file (counts_line counts.locales counts.rules counts.numbers counts.faults)

abbrev pub file_report_text : List ℕ → Report → List ℕ
file_report_text file report = flat_map (finding_line_in file) (findings_in report) ++ counts_line_in file (counts_in report)
