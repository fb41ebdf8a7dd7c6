use Rattle.std.proofs.Common.{◌≡◌, ◌≤◌, ◌+◌, ◌*◌, ◌++◌, List, Some, length}
use Rattle.json.specs.Json as json
use Rattle.document_tokens.specs.HeldTokens.{Held, held_members}
use Rattle.plural_documents.proofs.RightTokens.{RightGoOn}
use Rattle.plural_documents.proofs.rules_check.+check.Given as goal
use Rattle.serde_json.specs.Data.{Members, no_members}
use Rattle.serde_json.specs.Read.{of_members}

abbrev pub decreases-is_right : goal.decreases-is_right
decreases-is_right l = 2 * length l.left.now + 1

abbrev pub decreases-are_right : goal.decreases-are_right
decreases-are_right l = 2 * length l.left.now

abbrev pub decreases-is_right_below : goal.decreases-is_right_below
decreases-is_right_below l = 2 * length l.left.now

-- the members that are left go in among those before, which are right
abbrev pub invariant-are_right-loop-first : goal.invariant-are_right-loop-first
invariant-are_right-loop-first l =
    ((members : json.Members) (rest : List Held) (whole : Members) → l.initial.left ≡ held_members members ++ rest
    → of_members members no_members ≡ Some whole → RightGoOn l.place l.left rest whole l.is_any_read)
    × (length l.left ≤ length l.initial.left)

abbrev pub decreases-are_right-loop-first : goal.decreases-are_right-loop-first
decreases-are_right-loop-first l = length l.left
