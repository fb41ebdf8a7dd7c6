use Rattle.std.proofs.Common.{subst}
use Rattle.std.specs.Io.KnownBytes.{Appends}
use Rattle.std.specs.Prelude.{OnErr, OnOk}
use Rattle.plural_documents.specs.Inputs.{IsPartWritten}
use Rattle.plural_documents.specs.WrittenLines.{shown_lines}
use Rattle.plural_documents.proofs.WaitingLemmas.{end_part, lines_part, lines_part_after, lines_written, on_err, on_err_then, on_ok_then}
use Rattle.plural_documents.proofs.written_lines.write_lines.Goals as goal

pub returns-in_err-print_lines-clause-part : goal.returns-in_err-print_lines-clause-part
returns-in_err-print_lines-clause-part g c = λ line_of shows.
    on_err _ _ (lines_part _ _ c.args.waiting.bytes.items (shown_lines line_of c.args.things.now) c.args.end.now
    (c.in_err-print_lines.ensures.part line_of shows))

pub returns-in_err-write_output-clause-part : goal.returns-in_err-write_output-clause-part
returns-in_err-write_output-clause-part g c = λ line_of shows.
    let waits = c.in_ok-print_lines.ensures.written line_of shows in
    on_err _ _ (lines_part_after _ _ _ _ c.args.waiting.bytes.items (shown_lines line_of c.args.things.now) c.args.end.now waits
    (subst (IsPartWritten _ _) c.as_slice.ensures.value c.in_err-write_output.ensures.part))

pub returns-clause-written : goal.returns-clause-written
returns-clause-written g c = λ line_of shows.
    let waits = c.in_ok-print_lines.ensures.written line_of shows in
    on_ok_then _ _ _ (lines_written _ _ _ _ _ c.args.waiting.bytes.items (shown_lines line_of c.args.things.now) c.args.end.now waits
    (subst (Appends _ _) c.as_slice.ensures.value c.in_ok-write_output.ensures.written))
    (subst (λ end. OnOk c.write_output-2.result (Appends (g.W.Write.contents c.write_output.new.writer)
    (g.W.Write.contents c.write_output-2.new.writer) end))
    c.as_bytes.ensures.value c.write_output-2.ensures.written)

pub returns-clause-part : goal.returns-clause-part
returns-clause-part g c = λ line_of shows.
    let waits = c.in_ok-print_lines.ensures.written line_of shows in
    on_err_then _ _ _ (end_part _ _ _ _ _ c.args.waiting.bytes.items (shown_lines line_of c.args.things.now) c.args.end.now waits
    (subst (Appends _ _) c.as_slice.ensures.value c.in_ok-write_output.ensures.written))
    (subst (λ end. OnErr c.write_output-2.result (IsPartWritten (g.W.Write.contents c.write_output.new.writer)
    (g.W.Write.contents c.write_output-2.new.writer) end))
    c.as_bytes.ensures.value c.write_output-2.ensures.part)
