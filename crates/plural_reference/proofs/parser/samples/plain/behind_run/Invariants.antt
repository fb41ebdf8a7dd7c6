use Rattle.std.proofs.Common.{◌≡◌, ◌++◌, ℕ, List, length}
use Rattle.std.specs.Char.{IsAsciiDigit}
use Rattle.std.specs.List.{AllByRecursion}
use Rattle.plural_reference.proofs.parser.samples.plain.behind_run.Given as goal

-- digits stand before what is left
abbrev pub invariant-digits : goal.invariant-digits
invariant-digits l = (front : List ℕ) × (l.text ≡ front ++ l.rest) × AllByRecursion IsAsciiDigit front

abbrev pub decreases-digits : goal.decreases-digits
decreases-digits l = length l.rest
