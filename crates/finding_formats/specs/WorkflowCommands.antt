-- What is found in files of messages as commands of a workflow of GitHub Actions, one for each
-- finding.
use Rattle.std.specs.Prelude.{ℕ, ◌==◌, Bool, ◌||◌, List, [], ◌∷◌, ◌++◌, codes, if◌then◌else◌, Option, None, Some}
use Rattle.std.specs.List.{flat_map}
use Rattle.percent_encoding.specs.Percent.{percent_encode_byte}
use Rattle.message_report.specs.FindingCauses.{severity_of}
use Rattle.message_report.specs.FoundInMessages.{MessageFound}
use Rattle.message_report.specs.MessageFindings.{MessageFinding}
use Rattle.message_report.specs.MessagePlaces.{file_of}
use Rattle.message_report.specs.declared.severity.Severity.{Severity}
use Rattle.message_report.specs.declared.severity.Severity.TheVariants.{Error, Note}
use Rattle.finding_formats.specs.FindingCodes.{code_name, code_of}
use Rattle.finding_formats.specs.FindingObjects.{finding_text}
use Rattle.finding_formats.specs.declared.workflow.Slot.{Slot}
use Rattle.finding_formats.specs.declared.workflow.Slot.TheVariants.{Message, Property}
use Rattle.std.specs.Fmt.{decimal}
use Rattle.finding_formats.specs.LocatedFindings.{Located, code_told, file_told, located_words, severity_told}

-- ---- the number of a line behind a mark: `:12`, or nothing if no line is known

abbrev pub line_mark : List ℕ → Option ℕ → List ℕ
line_mark mark None = []
line_mark mark (Some line) = mark ++ decimal line

-- `%`, which begins an escape, and the ends of a line
abbrev pub ends_message : ℕ → Bool
ends_message byte = (byte == 37) || (byte == 13) || (byte == 10)

-- a property also ends at `:` and `,`
abbrev pub needs_escape : Slot → ℕ → Bool
needs_escape Message byte = ends_message byte
needs_escape Property byte = ends_message byte || (byte == 58) || (byte == 44)

-- the byte, or `%` and its two hexadecimal digits
abbrev pub slot_byte : Slot → ℕ → List ℕ
slot_byte slot byte = if needs_escape slot byte then percent_encode_byte byte else byte ∷ []

abbrev pub slot_text : Slot → List ℕ → List ℕ
slot_text slot text = flat_map (slot_byte slot) text

abbrev pub command_name : Severity → List ℕ
command_name Error = codes "error"
command_name Note = codes "notice"

-- `::error file=ru.po,line=12,title=missing::ru files many: missing, but 0 and 5 are many`: the title
-- is given as it stands there, and the line is left out if none is known
abbrev pub command_text : Severity → List ℕ → Option ℕ → List ℕ → List ℕ → List ℕ
command_text severity file line title message =
    codes "::" ++ (command_name severity ++ (codes " file=" ++ (slot_text Property file ++ (line_mark (codes ",line=") line
    ++ (codes ",title=" ++ (title ++ (codes "::" ++ (slot_text Message message ++ codes "\n"))))))))

-- no line is known
abbrev pub command_line : MessageFinding → List ℕ
command_line f = command_text (severity_of f.cause) (file_of f.place) None (code_name (code_of f.cause)) (finding_text f)

abbrev pub workflow_text : MessageFound → List ℕ
workflow_text found = flat_map command_line found.findings

-- ---- commands for what is told of files

-- `::notice file=ru.po,line=12,title=fuzzy::..`
abbrev pub located_command : Located → List ℕ
located_command l =
    command_text (severity_told l.told) (file_told l.told) l.line (slot_text Property (code_told l.told)) (located_words l)

abbrev pub located_commands : List Located → List ℕ
located_commands ls = flat_map located_command ls
