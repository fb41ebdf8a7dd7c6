use Rattle.gettext_plural.specs.PluralViews.{formula_view}
use Rattle.gettext_plural.specs.Inner.FormulaViews.{pendings_view}
use Rattle.gettext_plural.proofs.PendingViews.{joint_step}
use Rattle.gettext_plural.proofs.reader.joint.Goals as goal

pub returns : goal.returns
returns c =
    let before = pendings_view c.args.pending.now.items in
    let operand = formula_view c.args.operand in
    joint_step c.args.operator before operand _ _ c.in_ok-joined.joined
    (rw c.binding.ensures at c.in_ok-joined.ensures) c.in_ok-put.ensures
