use Rattle.std.proofs.Common.{ap, ◌∙◌}
use Rattle.gettext_plural.specs.PluralViews.{formula_view}
use Rattle.gettext_plural.specs.Inner.FormulaViews.{pendings_view}
use Rattle.gettext_plural.specs.Inner.PluralMachine.{coloned}
use Rattle.gettext_plural.proofs.PendingViews.{colon_step, faults}
use Rattle.gettext_plural.proofs.reader.colon.Goals as goal

pub returns-in_ok-put-in-Some : goal.returns-in_ok-put-in-Some
returns-in_ok-put-in-Some c =
    colon_step (pendings_view c.args.pending.now.items) (formula_view c.args.operand) c.unwind.new.pending.items
    c.pop_condition.new.pending.items c.put.new.pending.items c.in-Some.condition c.in_ok-yes.yes
    c.in_ok-yes.ensures (c.in-Some.ensures (formula_view c.in_ok-yes.yes)) c.in_ok-put-in-Some.ensures

pub returns-in-None : goal.returns-in-None
returns-in-None c =
    faults _ _ _ _ c.misplaced.ensures (ap coloned c.in_ok-yes.ensures ∙ c.in-None.ensures (formula_view c.in_ok-yes.yes))
