use Rattle.std.proofs.Common.{◌≡◌, ℕ, ◌<◌, false}
use Rattle.std.specs.Prelude.{slice_index}
use Rattle.plural_fallback.specs.LocaleNames.{is_separator}
use Rattle.plural_fallback.proofs.locale.language.Given as goal

-- no separator was met
abbrev pub invariant-loop-index : goal.invariant-loop-index
invariant-loop-index l = (k : ℕ) → k < l.index → is_separator (slice_index l.locale k) ≡ false
