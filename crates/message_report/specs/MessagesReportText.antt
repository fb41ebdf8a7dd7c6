-- The text of a report of messages: a line for each finding, and one with the counts and the numbers
-- that were tried.
use Rattle.std.specs.Prelude.{ℕ, ◌==◌, List, [], ◌++◌, codes, if◌then◌else◌}
use Rattle.std.specs.Fmt.{decimal}
use Rattle.std.specs.List.{flat_map}
use Rattle.plural_documents.specs.PrintedKeys.{ended_line}
use Rattle.message_report.specs.FoundInMessages.{MessageFound}
use Rattle.message_report.specs.MessageFindings.{MessageFinding, message_finding_line}
use Rattle.message_report.specs.declared.counts.Counts.{Counts}

-- the line of a finding, with a newline
abbrev pub printed_message_finding : MessageFinding → List ℕ
printed_message_finding finding = ended_line (message_finding_line finding)

-- notes are named if there are some
abbrev pub message_notes_text : ℕ → List ℕ
message_notes_text notes = if notes == 0 then [] else codes ", notes: " ++ decimal notes

-- `messages: 12, forms: 40, faults: 3, notes: 1, numbers tried: 0 to 9999`
abbrev pub counts_line_with : Counts → List ℕ → List ℕ
counts_line_with counts notes =
    codes "messages: " ++ (decimal counts.messages ++ (codes ", forms: " ++ (decimal counts.forms ++ (codes ", faults: "
    ++ (decimal counts.faults ++ (notes ++ codes ", numbers tried: 0 to 9999\n"))))))

abbrev pub message_counts_line : Counts → List ℕ
message_counts_line counts = counts_line_with counts (message_notes_text counts.notes)

abbrev pub counts_found : MessageFound → Counts
counts_found found = record { messages = found.messages; forms = found.forms; faults = found.faults; notes = found.notes }

abbrev pub messages_report_text : MessageFound → List ℕ
messages_report_text found = flat_map printed_message_finding found.findings ++ message_counts_line (counts_found found)
