-- What is told of files as text: a line for each, and one with the totals.
use Rattle.std.specs.Prelude.{ℕ, List, ◌++◌, codes}
use Rattle.std.specs.Fmt.{decimal}
use Rattle.std.specs.List.{flat_map}
use Rattle.message_report.specs.FindingCauses.{severity_name}
use Rattle.finding_formats.specs.WorkflowCommands.{line_mark, located_commands}
use Rattle.finding_formats.specs.LocatedFindings.{Located, code_told, file_told, located_words, severity_told}
use Rattle.finding_formats.specs.declared.totals.Totals.{Totals}
use Rattle.finding_formats.specs.LocatedLog.{located_log}
use Rattle.finding_formats.specs.LocatedObjects.{located_lines}
use Rattle.finding_formats.specs.declared.format.Format.{Format}
use Rattle.finding_formats.specs.declared.format.Format.TheVariants.{Text, Json, Sarif, GitHub}

-- `ru.po:12: error [no-number] ru files one: no %d, but 1 and 21 are one`
abbrev pub report_line : Located → List ℕ
report_line l =
    file_told l.told ++ (line_mark (codes ":") l.line ++ (codes ": " ++ (severity_name (severity_told l.told) ++ (codes " ["
    ++ (code_told l.told ++ (codes "] " ++ (located_words l ++ codes "\n")))))))

-- `messages: 12, forms: 40, faults: 3, notes: 1, left out: 2, numbers tried: 0 to 9999`
abbrev pub totals_line : Totals → List ℕ
totals_line t =
    codes "messages: " ++ (decimal t.messages ++ (codes ", forms: " ++ (decimal t.forms ++ (codes ", faults: "
    ++ (decimal t.faults ++ (codes ", notes: " ++ (decimal t.notes ++ (codes ", left out: "
    ++ (decimal t.left_out ++ codes ", numbers tried: 0 to 9999\n")))))))))

abbrev pub located_report : List Located → Totals → List ℕ
located_report ls totals = flat_map report_line ls ++ totals_line totals

-- ---- what is told of files, printed in a format

abbrev pub located_text : Format → List Located → Totals → List ℕ
located_text Text ls totals = located_report ls totals
located_text Json ls totals = located_lines ls totals
located_text Sarif ls totals = located_log ls
located_text GitHub ls totals = located_commands ls
