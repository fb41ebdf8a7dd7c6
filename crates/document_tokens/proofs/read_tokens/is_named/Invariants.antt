use Rattle.std.proofs.Common.{◌≡◌, length}
use Rattle.document_tokens.specs.TextTokens.{is_among_names, key_names_view}
use Rattle.document_tokens.proofs.read_tokens.is_named.Given as goal

-- no name so far is the key
abbrev pub invariant-loop-rest : goal.invariant-loop-rest
invariant-loop-rest l = is_among_names (key_names_view l.names) l.key ≡ is_among_names (key_names_view l.rest) l.key

abbrev pub decreases-loop-rest : goal.decreases-loop-rest
decreases-loop-rest l = length l.rest
