-- What is found in files of messages as a log of SARIF 2.1.0: one run, whose results are the
-- findings in their order, and whose rules are the codes.
use Rattle.std.specs.Prelude.{ℕ, List, Option, None, codes, map}
use Rattle.serde_json.specs.Data.{Data}
use Rattle.message_report.specs.FindingCauses.{severity_of}
use Rattle.message_report.specs.FoundInMessages.{MessageFound}
use Rattle.message_report.specs.MessageFindings.{MessageFinding}
use Rattle.message_report.specs.MessagePlaces.{file_of, file_place_text}
use Rattle.finding_formats.specs.FindingCodes.{all_codes, code_meaning, code_name, code_of, code_place, level_name}
use Rattle.finding_formats.specs.FindingObjects.{finding_text}
use Rattle.finding_formats.specs.Logs.{location_data, log_text, result_data, rule_data}

-- the result of a finding, given its line, if it is known, and what is printed of it
abbrev pub finding_result : Option ℕ → MessageFinding → List ℕ → Data
finding_result line f text =
    result_data (level_name (severity_of f.cause)) (location_data (file_of f.place) line (file_place_text f.place)) text
    (code_name (code_of f.cause)) (code_place (code_of f.cause))

-- no line is known
abbrev pub result_of : MessageFinding → Data
result_of f = finding_result None f (finding_text f)

-- the log of results
abbrev pub forms_log : List Data → List ℕ
forms_log results = log_text (codes "plural_forms") (map (λ code. rule_data (code_name code) (code_meaning code)) all_codes) results

abbrev pub sarif_text : MessageFound → List ℕ
sarif_text found = forms_log (map result_of found.findings)
