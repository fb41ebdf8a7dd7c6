-- The report of a document as commands of a workflow of GitHub Actions, one for each finding.
use Rattle.std.specs.Prelude.{ℕ, List, [], ◌∷◌, None}
use Rattle.std.specs.List.{flat_map}
use Rattle.message_report.specs.declared.severity.Severity.TheVariants.{Error}
use Rattle.document_report.specs.DocumentFindings.{Finding, finding_line}
use Rattle.document_report.specs.ReportText.{findings_in}
use Rattle.document_report.specs.declared.report.Report.{Report}
use Rattle.finding_formats.specs.WorkflowCommands.{located_commands}
use Rattle.finding_formats.specs.LocatedFindings.{Located, Notice, told_notice}
use Rattle.document_formats.specs.DocumentCodes.{document_code_name, document_code_of}
use Rattle.document_formats.specs.DocumentObjects.{input_name}

-- a text with a code, told of a file
abbrev pub file_notice : List ℕ → List ℕ → List ℕ → Notice
file_notice file code text = record { file = file; severity = Error; code = code; text = text }

abbrev pub file_located : List ℕ → List ℕ → List ℕ → Located
file_located file code text = record { line = None; placeholder = None; told = told_notice (file_notice file code text) }

-- its command
abbrev pub file_command : List ℕ → List ℕ → List ℕ → List ℕ
file_command file code text = located_commands (file_located file code text ∷ [])

-- `::error file=cldr.json,title=no-other::cardinal ru: no other`
abbrev pub finding_command_in : List ℕ → Finding → List ℕ
finding_command_in file f = file_command file (document_code_name (document_code_of f.cause)) (finding_line f)

abbrev pub file_report_commands : List ℕ → Report → List ℕ
file_report_commands file report = flat_map (finding_command_in file) (findings_in report)

-- those of the document in standard input: `::error file=-,title=no-other::cardinal ru: no other`
abbrev pub report_commands : Report → List ℕ
report_commands report = file_report_commands input_name report
