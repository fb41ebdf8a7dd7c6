use Rattle.std.proofs.Common.{◌≡◌, length}
use Rattle.gettext_plural.specs.Inner.FormulaViews.{pendings_view}
use Rattle.gettext_plural.specs.PluralViews.{formula_view}
use Rattle.gettext_plural.specs.Inner.PluralMachine.{unwind}
use Rattle.gettext_plural.proofs.reader.unwind.Given as goal

-- what is left still ends as all did
abbrev pub invariant-ended : goal.invariant-ended
invariant-ended l =
    unwind l.binding (pendings_view l.initial.pending.items) (formula_view l.initial.operand)
    ≡ unwind l.binding (pendings_view l.pending.items) (formula_view l.operand)

abbrev pub decreases-ended : goal.decreases-ended
decreases-ended l = length (pendings_view l.pending.items)
