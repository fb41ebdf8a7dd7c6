use Rattle.std.proofs.Common.{◌≡◌, arith, length, sym, ap, ◌∙◌}
use Rattle.std.specs.Vec.{vec_len}
use Rattle.gettext_plural.specs.PluralViews.{formula_view}
use Rattle.gettext_plural.specs.Inner.FormulaViews.{pendings_view}
use Rattle.gettext_plural.specs.Inner.PluralMachine.{finished, unwind}
use Rattle.gettext_plural.proofs.PendingViews.{faults, none_waits, some_waits}
use Rattle.gettext_plural.proofs.reader.end_at.Goals as goal

pub returns-then-is_empty : goal.returns-then-is_empty
returns-then-is_empty c =
    let pending = c.unwind.new.pending in
    let size : vec_len c.unwind.new.pending ≡ length c.unwind.new.pending.items = omega arith in
    ap finished c.in_ok-whole.ensures
    ∙ none_waits (vec_len pending) pending.items (formula_view c.in_ok-whole.whole) size (sym c.is_empty.ensures ∙ c.if-is_empty.true)

pub returns : goal.returns
returns c =
    let pending = c.unwind.new.pending in
    let size : vec_len c.unwind.new.pending ≡ length c.unwind.new.pending.items = omega arith in
    let waits = some_waits (vec_len pending) pending.items (formula_view c.in_ok-whole.whole) size
    (sym c.is_empty.ensures ∙ c.if-is_empty.false) in
    faults (finished (unwind 0 (pendings_view c.args.pending.now.items) (formula_view c.args.operand))) _ c.args.left c.fault.result
    c.fault.ensures (ap finished c.in_ok-whole.ensures ∙ waits)
