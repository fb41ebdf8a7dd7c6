use Rattle.std.proofs.Common.{◌≡◌, ◌-◌, ◌≤◌, Some}
use Rattle.std.specs.List.{All}
use Rattle.plural_fallback.specs.FirstKeys.{locale_at}
use Rattle.document_members.specs.Inner.Rows.{IsStop}
use Rattle.document_members.specs.ParentRows.{named_parent}
use Rattle.document_members.specs.ChainSteps.{short_next}
use Rattle.document_members.proofs.chains.walk.Given as goal

-- the current locale is the one after so many steps, and the path has those before
abbrev pub invariant-steps : goal.invariant-steps
invariant-steps l =
    (l.steps ≤ 48)
    × (locale_at (short_next (named_parent l.parents)) l.locale l.steps ≡ Some l.current)
    × All (IsStop (short_next (named_parent l.parents)) l.locale) l.path.items

abbrev pub decreases-steps : goal.decreases-steps
decreases-steps l = 48 - l.steps
