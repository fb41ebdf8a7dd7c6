-- What is found in files of messages as lines of JSON: one for each finding, and one with the counts.
use Rattle.std.specs.Prelude.{ℕ, List, [], ◌∷◌, ◌++◌, map}
use Rattle.std.specs.List.{flat_map}
use Rattle.serde_json.specs.Data.{Data}
use Rattle.serde_json.specs.Written.{compact_text}
use Rattle.plural_documents.specs.PrintedKeys.{ended_line}
use Rattle.message_report.specs.FoundInMessages.{MessageFound}
use Rattle.message_report.specs.MessagesReportText.{counts_found}
use Rattle.finding_formats.specs.FindingObjects.{counts_data, finding_data}

-- a value without spaces, and a newline
abbrev pub json_line : Data → List ℕ
json_line d = ended_line (compact_text d)

-- the findings in their order, and then the counts, whose line is the last one
abbrev pub found_data : MessageFound → List Data
found_data found = map finding_data found.findings ++ (counts_data (counts_found found) ∷ [])

abbrev pub json_lines : MessageFound → List ℕ
json_lines found = flat_map json_line (found_data found)
