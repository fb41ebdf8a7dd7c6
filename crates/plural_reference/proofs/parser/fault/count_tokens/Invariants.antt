use Rattle.std.proofs.Common.{◌≡◌, ◌+◌, ◌≤◌, length}
use Rattle.plural_reference.specs.Inner.Scan.{tokens_of}
use Rattle.plural_reference.proofs.parser.fault.count_tokens.Given as goal

-- the tokens so far and those that are left are all
abbrev pub invariant-tokens : goal.invariant-tokens
invariant-tokens l = record {
  all : l.count + length l.tokens ≡ length (tokens_of l.text);
  few : length (tokens_of l.text) ≤ length l.text;
}

abbrev pub decreases-tokens : goal.decreases-tokens
decreases-tokens l = length l.tokens
