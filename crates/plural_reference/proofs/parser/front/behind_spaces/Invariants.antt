use Rattle.std.proofs.Common.{◌≡◌, length}
use Rattle.plural_reference.specs.Inner.Scan.{tokens_of}
use Rattle.plural_reference.proofs.parser.front.behind_spaces.Given as goal

-- only spaces were left out
abbrev pub invariant-spaces : goal.invariant-spaces
invariant-spaces l = tokens_of l.rest ≡ tokens_of l.text

abbrev pub decreases-spaces : goal.decreases-spaces
decreases-spaces l = length l.rest
