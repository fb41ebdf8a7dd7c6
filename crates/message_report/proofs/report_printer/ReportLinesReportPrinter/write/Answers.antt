use Rattle.std.proofs.Common.{◌≡◌, ℕ, List, [], ◌∷◌, ◌++◌, map, refl, ap, ◌∙◌, subst}
use Rattle.std.specs.Io.KnownBytes.{Appends}
use Rattle.std.specs.List.{flat_map}
use Rattle.plural_documents.specs.Inputs.{IsPartWritten}
use Rattle.plural_documents.specs.PrintedKeys.{ended_line}
use Rattle.plural_documents.specs.WrittenLines.{lines_behind, shown_lines}
use Rattle.message_report.specs.FoundInMessages.{MessageFound}
use Rattle.message_report.specs.MessageFindings.{message_finding_line, message_finding_view}
use Rattle.message_report.specs.MessagesReportText.{counts_found, message_counts_line, messages_report_text, printed_message_finding}
use Rattle.message_report.specs.declared.finding.Finding.{Finding}
use Rattle.message_report.proofs.report_printer.ReportLinesReportPrinter.write.Goals as goal

abbrev shown : Finding → List ℕ
shown f = message_finding_line (message_finding_view f)

lines_shown : (fs : List Finding) → shown_lines shown fs ≡ flat_map printed_message_finding (map message_finding_view fs)
lines_shown [] = refl
lines_shown (f ∷ fs) = ap (λ l. ended_line (shown f) ++ l) (lines_shown fs)

-- behind nothing that waits, the lines and the counts are the report
is_report : (waiting : List ℕ) (fs : List Finding) (counts : List ℕ) (found : MessageFound) → waiting ≡ []
    → map message_finding_view fs ≡ found.findings → counts ≡ message_counts_line (counts_found found)
    → lines_behind waiting shown fs counts ≡ messages_report_text found
is_report waiting fs counts found none same end =
    ap (λ w. w ++ (shown_lines shown fs ++ counts)) none
    ∙ ap (λ l. l ++ counts) (lines_shown fs ∙ ap (flat_map printed_message_finding) same)
    ∙ ap (λ l. flat_map printed_message_finding found.findings ++ l) end

pub returns-in-Ok-write_lines-clause-text : goal.returns-in-Ok-write_lines-clause-text
returns-in-Ok-write_lines-clause-text g c =
    subst (Appends (g.W.Write.contents c.args.writer.now) (g.W.Write.contents c.write_lines.new.writer))
    (is_report _ _ _ c.args.found.now c.in-Ok-new.ensures c.findings.ensures
    (c.as_str.ensures.value ∙ c.in-Ok.ensures ∙ ap message_counts_line c.counts.ensures))
    (c.in-Ok-write_lines.ensures.written shown (λ thing. refl))

pub returns-clause-text : goal.returns-clause-text
returns-clause-text g c =
    subst (IsPartWritten (g.W.Write.contents c.args.writer.now) (g.W.Write.contents c.write_lines.new.writer))
    (is_report _ _ _ c.args.found.now c.in-Ok-new.ensures c.findings.ensures
    (c.as_str.ensures.value ∙ c.in-Ok.ensures ∙ ap message_counts_line c.counts.ensures))
    (c.in-Err.ensures.part shown (λ thing. refl))
