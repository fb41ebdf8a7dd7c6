-- The report of a document as a log of SARIF 2.1.0: one run, whose results are the findings in their
-- order, and whose rules are the codes.
use Rattle.std.specs.Prelude.{ℕ, List, None, codes, map}
use Rattle.serde_json.specs.Data.{Data}
use Rattle.document_report.specs.DocumentFindings.{Finding, finding_line}
use Rattle.document_report.specs.DocumentPlaces.{finding_place_text}
use Rattle.document_report.specs.ReportText.{findings_in}
use Rattle.document_report.specs.declared.report.Report.{Report}
use Rattle.finding_formats.specs.Logs.{location_data, log_text, result_data, rule_data}
use Rattle.document_formats.specs.DocumentCodes.{all_document_codes, document_code_meaning, document_code_name, document_code_of, document_code_place}
use Rattle.document_formats.specs.DocumentObjects.{input_name}

-- the result of a finding in a file, whose line isn't known
abbrev pub result_in : List ℕ → Finding → Data
result_in file f =
    result_data (codes "error") (location_data file None (finding_place_text f.place)) (finding_line f) (document_code_name (document_code_of f.cause))
    (document_code_place (document_code_of f.cause))

abbrev pub file_report_log : List ℕ → Report → List ℕ
file_report_log file report =
    log_text (codes "plurals_check") (map (λ code. rule_data (document_code_name code) (document_code_meaning code)) all_document_codes)
    (map (result_in file) (findings_in report))

-- that of the document in standard input
abbrev pub report_log : Report → List ℕ
report_log report = file_report_log input_name report
