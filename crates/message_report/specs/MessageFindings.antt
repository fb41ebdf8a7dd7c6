-- What is found in files of messages, as values, and the line that is printed for each.
--     message_finding_line finding      `ru.json: ru files two: no number is two`
--     message_finding_view finding      a finding of the code
use Rattle.std.specs.Prelude.{ℕ, List, ◌++◌, codes}
use Rattle.message_report.specs.FindingCauses.{message_cause_text}
use Rattle.message_report.specs.MessagePlaces.{FilePlace, file_of, file_place_text, place_view}
use Rattle.message_report.specs.declared.cause.Cause.{Cause}
use Rattle.message_report.specs.declared.finding.Finding as findings

-- something is wrong at a place
pub record MessageFinding : Type 0 where
  pub place : FilePlace
  pub cause : Cause

-- the file, the place, and what is wrong
abbrev pub message_finding_line : MessageFinding → List ℕ
message_finding_line f = file_of f.place ++ (codes ": " ++ (file_place_text f.place ++ (codes ": " ++ message_cause_text f.cause)))

-- that of the code
abbrev pub message_finding_view : findings.Finding → MessageFinding
message_finding_view f = record { place = place_view f.place; cause = f.cause }
