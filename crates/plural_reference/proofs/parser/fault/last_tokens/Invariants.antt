use Rattle.std.proofs.Common.{◌≡◌, ◌≤◌, length}
use Rattle.plural_reference.specs.Inner.Scan.{tokens_of}
use Rattle.plural_reference.proofs.tokens.Walk.{Walks}
use Rattle.plural_reference.proofs.parser.fault.last_tokens.Given as goal

-- pieces were passed, and no more tokens than may be
abbrev pub invariant-pieces : goal.invariant-pieces
invariant-pieces l = record {
  walk : Walks l.text l.rest;
  ahead : l.ahead ≡ length (tokens_of l.rest);
  enough : l.left ≤ length (tokens_of l.text) → l.left ≤ length (tokens_of l.rest);
}

abbrev pub decreases-pieces : goal.decreases-pieces
decreases-pieces l = length l.rest
