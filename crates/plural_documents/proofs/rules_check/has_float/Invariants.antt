use Rattle.std.proofs.Common.{◌≡◌, length, map}
use Rattle.std.specs.List.{list_any}
use Rattle.document_tokens.specs.HeldTokens.{held_token}
use Rattle.plural_documents.specs.Inner.RulesPlaces.{is_float}
use Rattle.plural_documents.proofs.rules_check.has_float.Given as goal

-- no token so far is a float
abbrev pub invariant-loop-rest : goal.invariant-loop-rest
invariant-loop-rest l = list_any is_float (map held_token l.tokens) ≡ list_any is_float (map held_token l.rest)

abbrev pub decreases-loop-rest : goal.decreases-loop-rest
decreases-loop-rest l = length l.rest
