use Rattle.std.proofs.Common.{◌≡◌, ℕ, ◌<◌, Some}
use Rattle.std.specs.Prelude.{slice_get}
use Rattle.message_pattern.specs.PatternParts.{Part}
use Rattle.catalog_commands.specs.GivenWords.{BeginsNumberArgument}
use Rattle.catalog_commands.proofs.arguments.takes_number.Given as goal

-- no part so far begins a plural or an ordinal of the argument
abbrev pub invariant-loop-index : goal.invariant-loop-index
invariant-loop-index l = (k : ℕ) (part : Part) → k < l.index → slice_get l.pattern k ≡ Some part → BeginsNumberArgument part.piece l.name → ⊥
