-- The formats in which findings are printed, by their names, and the text in each.
--     format_named word      the format of a word
--     printed_as format found      what is found, as text in a format
use Rattle.std.specs.Prelude.{ℕ, List, bytes_eq, codes, Option, Some, None, if◌then◌else◌}
use Rattle.message_report.specs.FoundInMessages.{MessageFound}
use Rattle.message_report.specs.MessagesReportText.{messages_report_text}
use Rattle.finding_formats.specs.JsonLines.{json_lines}
use Rattle.finding_formats.specs.SarifLog.{sarif_text}
use Rattle.finding_formats.specs.WorkflowCommands.{workflow_text}
use Rattle.finding_formats.specs.declared.format.Format.{Format}
use Rattle.finding_formats.specs.declared.format.Format.TheVariants.{Text, Json, Sarif, GitHub}

abbrev pub format_name : Format → List ℕ
format_name Text = codes "text"
format_name Json = codes "json"
format_name Sarif = codes "sarif"
format_name GitHub = codes "github"

abbrev pub format_named : List ℕ → Option Format
format_named word =
    if bytes_eq word (format_name Text) then Some Text
    else if bytes_eq word (format_name Json) then Some Json
    else if bytes_eq word (format_name Sarif) then Some Sarif
    else if bytes_eq word (format_name GitHub) then Some GitHub
    else None

abbrev pub printed_as : Format → MessageFound → List ℕ
printed_as Text found = messages_report_text found
printed_as Json found = json_lines found
printed_as Sarif found = sarif_text found
printed_as GitHub found = workflow_text found
