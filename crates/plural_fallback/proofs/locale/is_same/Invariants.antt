use Rattle.std.proofs.Common.{◌≡◌, length}
use Rattle.plural_fallback.specs.LocaleNames.{is_same}
use Rattle.plural_fallback.proofs.locale.is_same.Given as goal

-- the locales are the same if what is left of them is
abbrev pub invariant-loop-ones : goal.invariant-loop-ones
invariant-loop-ones l = is_same l.one l.other ≡ is_same l.ones l.others

abbrev pub decreases-loop-ones : goal.decreases-loop-ones
decreases-loop-ones l = length l.ones
