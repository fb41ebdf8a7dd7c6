use Rattle.std.proofs.Common.{◌≡◌, ◌+◌, ◌-◌, [], length, arith, refl, subst}
use Rattle.std.proofs.lemmas.Grind.{common_steps}
use Rattle.std.specs.Io.KnownBytes.{Appends}
use Rattle.plural_documents.specs.Inputs.{IsPartWritten}
use Rattle.plural_documents.specs.PrintedKeys.{ended_line}
use Rattle.plural_documents.proofs.WaitingLemmas.{line_next, line_part, line_part_after, line_whole, next_start, on_err, waits_first}
use Rattle.plural_documents.proofs.written_lines.print_line.Goals as goal

pub loop-init : goal.loop-init
loop-init g c = λ text is. ([], refl, waits_first _ _)

pub returns-in_err-print-clause-part : goal.returns-in_err-print-clause-part
returns-in_err-print-clause-part g c = λ text is.
    let (printed, so_far, waits) = c.loop.invariant text is in
    on_err _ _ (line_part _ _ _ _ (ended_line text) printed _ so_far waits)

pub returns-then-not-waiting-clause-written : goal.returns-then-not-waiting-clause-written
returns-then-not-waiting-clause-written g c = λ text is.
    let (printed, so_far, waits) = c.loop.invariant text is in
    let (takes, skip) = c.in_ok-print.ensures text is in
    line_whole _ _ _ (ended_line text) printed _ c.loop.waiting _ so_far waits takes c.if-not-waiting.true

pub returns-in_default-clause-part : goal.returns-in_default-clause-part
returns-in_default-clause-part g c = λ text is.
    let (printed, so_far, waits) = c.loop.invariant text is in
    line_part _ _ _ _ (ended_line text) printed _ so_far waits

pub returns-in_err-write_output-clause-part : goal.returns-in_err-write_output-clause-part
returns-in_err-write_output-clause-part g c = λ text is.
    let (printed, so_far, waits) = c.loop.invariant text is in
    let (takes, skip) = c.in_ok-print.ensures text is in
    let waited : c.len-waited.result ≡ length c.loop.waiting.bytes.items = grind (arith, common_steps) in
    let waiting : c.len.result ≡ length c.print.new.self.bytes.items = grind (arith, common_steps) in
    let more : c.saturating_sub-printed.result ≡ c.len.result - c.len-waited.result = grind (arith, common_steps) in
    let sum : c.in-Some.next ≡ c.loop.start + c.saturating_sub-printed.result = grind (arith, common_steps) in
    let next = next_start c.loop.start _ _ _ _ c.loop.waiting c.print.new.self _ takes waited waiting more sum in
    on_err _ _ (line_part_after _ _ _ _ (ended_line text) printed _ _ c.loop.waiting c.print.new.self so_far waits takes next
    (subst (IsPartWritten _ _) c.as_slice.ensures.value c.in_err-write_output.ensures.part))

pub loop-preserved : goal.loop-preserved
loop-preserved g c = λ text is.
    let (printed, so_far, waits) = c.loop.invariant text is in
    let (takes, skip) = c.in_ok-print.ensures text is in
    let waited : c.len-waited.result ≡ length c.loop.waiting.bytes.items = grind (arith, common_steps) in
    let waiting : c.len.result ≡ length c.print.new.self.bytes.items = grind (arith, common_steps) in
    let more : c.saturating_sub-printed.result ≡ c.len.result - c.len-waited.result = grind (arith, common_steps) in
    let sum : c.in-Some.next ≡ c.loop.start + c.saturating_sub-printed.result = grind (arith, common_steps) in
    let next = next_start c.loop.start _ _ _ _ c.loop.waiting c.print.new.self _ takes waited waiting more sum in
    line_next _ _ _ _ (ended_line text) printed _ _ _ c.loop.waiting c.print.new.self so_far waits takes next
    (subst (Appends _ _) c.as_slice.ensures.value c.in_ok-write_output.ensures.written) c.clear.ensures.items

pub returns-clause-part : goal.returns-clause-part
returns-clause-part g c = λ text is.
    let (printed, so_far, waits) = c.loop.invariant text is in
    line_part _ _ _ _ (ended_line text) printed _ so_far waits
