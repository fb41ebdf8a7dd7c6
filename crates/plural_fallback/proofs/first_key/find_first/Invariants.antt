use Rattle.std.proofs.Common.{◌≡◌, ◌-◌, ◌≤◌, Some}
use Rattle.plural_fallback.specs.Chain.{next_of}
use Rattle.plural_fallback.specs.FirstKeys.{key_at, locale_at, NoneBefore}
use Rattle.plural_fallback.proofs.first_key.find_first.Given as goal

-- the current locale is the one after so many steps, and no locale before it has a key
abbrev pub invariant-loop-steps : goal.invariant-loop-steps
invariant-loop-steps g l =
    let next = next_of (g.L.Locales.parent l.locales) in
    (l.steps ≤ 32) × (locale_at next l.locale l.steps ≡ Some l.current)
    × NoneBefore l.steps (key_at (g.L.Locales.keys l.locales l.part) next l.locale)

abbrev pub decreases-loop-steps : goal.decreases-loop-steps
decreases-loop-steps g l = 32 - l.steps
