use Rattle.std.proofs.Common.{◌≡◌, length, take, drop}
use Rattle.std.specs.Prelude.{map}
use Rattle.icu_plurals.specs.CategoryTables.{integer_entry}
use Rattle.plural_exports.proofs.integers.write_categories.Given as goal

abbrev pub invariant-loop-k : goal.invariant-loop-k
invariant-loop-k g l =
    (length l.out ≡ length l.fn.out)
    × (take l.k l.out ≡ map (integer_entry (g.R.ManyAsked.rules l.rules)) (take l.k l.numbers))
    × (drop l.k l.out ≡ drop l.k l.fn.out)
