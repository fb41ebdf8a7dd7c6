use Rattle.std.proofs.Common.{◌≡◌, ℕ, ◌<◌, get_or, length}
use Rattle.plural_base.specs.declared.category.PluralCategory.TheVariants.{Zero}
use Rattle.plural_base.specs.Inner.WholeNumbers.{category_of_whole}
use Rattle.plural_base.proofs.rules.prepared.low_categories.Given as goal

abbrev pub invariant-loop-k : goal.invariant-loop-k
invariant-loop-k l = (length l.low ≡ 128) × ((n : ℕ) → n < l.k → get_or l.low n Zero ≡ category_of_whole l.rules n)
