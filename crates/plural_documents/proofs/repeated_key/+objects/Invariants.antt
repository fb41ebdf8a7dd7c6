use Rattle.std.proofs.Common.{◌≡◌, ◌≤◌, ◌+◌, ◌*◌, ◌++◌, List, length}
use Rattle.json.specs.Json as json
use Rattle.document_tokens.specs.HeldTokens.{Held, held_members}
use Rattle.plural_documents.specs.RepeatedKeys.{path_view}
use Rattle.plural_documents.proofs.KeyWalks.{Goes}
use Rattle.plural_documents.proofs.repeated_key.+objects.Given as goal

abbrev pub decreases-add_value : goal.decreases-add_value
decreases-add_value l = 2 * length l.left.now + 1

abbrev pub decreases-add_object : goal.decreases-add_object
decreases-add_object l = 2 * length l.left.now

abbrev pub invariant-add_object-loop-first : goal.invariant-add_object-loop-first
invariant-add_object-loop-first l =
    ((members : json.Members) (rest : List Held) → l.initial.left ≡ held_members members ++ rest
    → Goes (path_view l.path) members rest l.left l.initial.found.items l.found.items l.keys)
    × (length l.left ≤ length l.initial.left)

abbrev pub decreases-add_object-loop-first : goal.decreases-add_object-loop-first
decreases-add_object-loop-first l = length l.left
