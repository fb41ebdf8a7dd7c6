use Rattle.std.proofs.Common.{ap, ◌∙◌}
use Rattle.gettext_plural.specs.PluralViews.{formula_view}
use Rattle.gettext_plural.specs.Inner.FormulaViews.{pendings_view}
use Rattle.gettext_plural.specs.Inner.PluralMachine.{close_with, bracket_closed}
use Rattle.gettext_plural.proofs.PendingViews.{faults}
use Rattle.gettext_plural.proofs.reader.close.Goals as goal

pub returns-then-pop_bracket : goal.returns-then-pop_bracket
returns-then-pop_bracket c =
    let rest = pendings_view c.pop_bracket.new.pending.items in
    let inner = formula_view c.in_ok-inner.inner in
    ap bracket_closed c.in_ok-inner.ensures ∙ c.pop_bracket.ensures inner ∙ ap (λ b. close_with b rest inner) c.if-pop_bracket.true

pub returns-else-pop_bracket : goal.returns-else-pop_bracket
returns-else-pop_bracket c =
    let rest = pendings_view c.pop_bracket.new.pending.items in
    let inner = formula_view c.in_ok-inner.inner in
    faults _ _ _ _ c.misplaced.ensures
    (ap bracket_closed c.in_ok-inner.ensures ∙ c.pop_bracket.ensures inner ∙ ap (λ b. close_with b rest inner) c.if-pop_bracket.false)
