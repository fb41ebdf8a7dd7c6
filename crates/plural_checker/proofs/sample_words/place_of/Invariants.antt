use Rattle.std.proofs.Common.{◌≡◌, ℕ, ◌<◌, false}
use Rattle.std.specs.Prelude.{slice_index}
use Rattle.plural_checker.specs.Inner.SampleSteps.{is_marked}
use Rattle.plural_checker.proofs.sample_words.place_of.Given as goal

-- no mark was met
abbrev pub invariant-loop-index : goal.invariant-loop-index
invariant-loop-index l = (k : ℕ) → k < l.index → is_marked l.mark (slice_index l.bytes k) ≡ false
