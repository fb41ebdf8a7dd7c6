use Rattle.std.proofs.Common.{◌≡◌, ◌≤◌, length, None}
use Rattle.std.specs.Prelude.{drop}
use Rattle.plural_fallback.specs.LocaleNames.{before_last}
use Rattle.plural_fallback.proofs.locale.before_last.Given as goal

-- no separator from here on
abbrev pub invariant-loop-end : goal.invariant-loop-end
invariant-loop-end l = (l.end ≤ length l.locale) × (before_last (drop l.end l.locale) ≡ None)

abbrev pub decreases-loop-end : goal.decreases-loop-end
decreases-loop-end l = l.end
