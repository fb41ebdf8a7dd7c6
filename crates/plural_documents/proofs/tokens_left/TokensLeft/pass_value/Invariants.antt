use Rattle.std.proofs.Common.{◌≡◌, ◌+◌, ◌≤◌, ◌∷◌, ◌++◌, List, length, map}
use Rattle.json.specs.Json.{Json}
use Rattle.document_tokens.specs.HeldTokens.{Held, held_token, held_tokens}
use Rattle.plural_documents.proofs.PassLemmas.{Leaves}
use Rattle.plural_documents.proofs.tokens_left.TokensLeft.pass_value.Given as goal

-- what comes after the value is left when nothing is open any more
abbrev pub invariant-loop-opened : goal.invariant-loop-opened
invariant-loop-opened l =
    ((value : Json) (rest : List Held) → held_token l.first ∷ map held_token l.initial.tokens ≡ held_tokens value ++ rest
    → Leaves rest l.opened (map held_token l.tokens))
    × (l.opened + length l.tokens ≤ 1 + length l.initial.tokens) × (length l.tokens ≤ length l.initial.tokens)

abbrev pub decreases-loop-opened : goal.decreases-loop-opened
decreases-loop-opened l = length l.tokens
