use Rattle.gettext_plural.specs.PluralViews.{formula_view}
use Rattle.gettext_plural.specs.Inner.FormulaViews.{pendings_view}
use Rattle.gettext_plural.proofs.PendingViews.{question_step}
use Rattle.gettext_plural.proofs.reader.question.Goals as goal

pub returns : goal.returns
returns c =
    let before = pendings_view c.args.pending.now.items in
    let operand = formula_view c.args.operand in
    question_step before operand _ _ c.in_ok-condition.condition c.in_ok-condition.ensures c.in_ok-put.ensures
