use Rattle.std.proofs.Common.{◌≡◌, take, ℕ}
use Rattle.std.specs.Prelude.{map}
use Rattle.plural_runtime.specs.Inner.RuleViews.{lent_relation}
use Rattle.plural_base.specs.ToldCategories.{first_above}
use Rattle.plural_base.proofs.rules.residue_class.first_above_ranges.Given as goal

abbrev pub invariant-loop-k : goal.invariant-loop-k
invariant-loop-k l = l.bound ≡ first_above (map (λ (range : ℕ × ℕ). range.1) (take l.k (lent_relation l.relation).meaning.ranges))
