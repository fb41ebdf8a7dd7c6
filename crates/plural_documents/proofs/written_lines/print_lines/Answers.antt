use Rattle.std.proofs.Common.{◌++◌, [], refl, sym, ap, ◌∙◌, append_assoc, append-nil, subst, arith}
use Rattle.std.proofs.KnownBytes.{Appends-nil}
use Rattle.std.proofs.Math.ListN.{drop_of_length-le}
use Rattle.plural_documents.specs.Inner.WaitingSteps.{IsWaiting}
use Rattle.plural_documents.specs.WrittenLines.{shown_lines}
use Rattle.plural_documents.proofs.WaitingLemmas.{next_lines, on_err, part_after, waits_after}
use Rattle.plural_documents.proofs.written_lines.print_lines.Goals as goal

pub loop-thing-init : goal.loop-thing-init
loop-thing-init g c = λ line_of shows. (c.args.waiting.now.bytes.items, refl, ([], refl, Appends-nil _))

pub returns-in_err-print_line-clause-part : goal.returns-in_err-print_line-clause-part
returns-in_err-print_line-clause-part g c = λ line_of shows.
    let (text, so_far, waits) = c.loop-thing.invariant line_of shows in
    let lines = next_lines line_of _ _ _ c.loop-thing-test.true c.thing-item.is in
    let part = c.in_err-print_line.ensures.part (line_of c.thing-item.result) (shows c.thing-item.result) in
    on_err _ _ (part_after _ _ _ _ _ _ _ _ _ waits refl part (sym so_far ∙ ap (λ l. text ++ l) lines))

pub loop-thing-preserved : goal.loop-thing-preserved
loop-thing-preserved g c = λ line_of shows.
    let (text, so_far, waits) = c.loop-thing.invariant line_of shows in
    let lines = next_lines line_of _ _ _ c.loop-thing-test.true c.thing-item.is in
    let more = c.in_ok-print_line.ensures.written (line_of c.thing-item.result) (shows c.thing-item.result) in
    (_, append_assoc text _ _ ∙ ap (λ l. text ++ l) (sym lines) ∙ so_far, waits_after _ _ _ _ _ _ _ _ waits more refl)

pub returns-clause-written : goal.returns-clause-written
returns-clause-written g c = λ line_of shows.
    let (text, so_far, waits) = c.loop-thing.invariant line_of shows in
    let none = drop_of_length-le c.args.things.now {i = c.loop-thing.thing-index} (omega arith) in
    subst (IsWaiting _ _ _) (sym (append-nil text) ∙ ap (λ l. text ++ shown_lines line_of l) (sym none) ∙ so_far) waits
