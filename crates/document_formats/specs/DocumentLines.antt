-- The report of a document as lines of JSON: one for each finding, and one with the counts.
use Rattle.std.specs.Prelude.{ℕ, List, [], ◌∷◌, ◌++◌, map}
use Rattle.std.specs.List.{flat_map}
use Rattle.serde_json.specs.Data.{Data}
use Rattle.document_report.specs.ReportText.{counts_in, findings_in}
use Rattle.document_report.specs.declared.report.Report.{Report}
use Rattle.finding_formats.specs.JsonLines.{json_line}
use Rattle.document_formats.specs.DocumentObjects.{document_counts_data, counts_data_in, document_finding_data, finding_data_in}

-- the findings in their order, and then the counts, whose line is the last one
abbrev pub report_data : Report → List Data
report_data report = map document_finding_data (findings_in report) ++ (document_counts_data (counts_in report) ∷ [])

abbrev pub report_lines : Report → List ℕ
report_lines report = flat_map json_line (report_data report)

-- the same of a file of this name
abbrev pub file_report_lines : List ℕ → Report → List ℕ
file_report_lines file report =
    flat_map json_line (map (finding_data_in file) (findings_in report)) ++ json_line (counts_data_in file (counts_in report))
