use Rattle.std.proofs.Common.{◌≡◌, ◌≤◌, ◌+◌, ◌*◌, ◌++◌, List, Some, length}
use Rattle.json.specs.Json as json
use Rattle.document_tokens.specs.HeldTokens.{Held, held_items, held_members}
use Rattle.plural_documents.proofs.OutlineLemmas.{AreSorted}
use Rattle.plural_documents.proofs.ItemLemmas.{items_after}
use Rattle.plural_documents.proofs.outline.+build.Given as goal
use Rattle.plural_documents.specs.Inner.OutlineSteps.{members_by}
use Rattle.serde_json.specs.Data.{Items, Members, no_members}
use Rattle.serde_json.specs.Read.{of_items, of_members}
use Rattle.serde_json.specs.View.{members_view}

abbrev pub decreases-outlined : goal.decreases-outlined
decreases-outlined g l = 3 * length l.left.now + 1

abbrev pub decreases-whole_items : goal.decreases-whole_items
decreases-whole_items g l = 3 * length l.left.now

abbrev pub decreases-outlined_members : goal.decreases-outlined_members
decreases-outlined_members g l = 3 * length l.left.now

abbrev pub decreases-keep_member : goal.decreases-keep_member
decreases-keep_member g l = 3 * length l.left.now + 1

abbrev pub decreases-put_outlined : goal.decreases-put_outlined
decreases-put_outlined g l = 3 * length l.left.now + 2

abbrev pub decreases-push_item : goal.decreases-push_item
decreases-push_item g l = 3 * length l.left.now + 2

-- the items that are left come after those that were found
abbrev pub invariant-whole_items-loop-first : goal.invariant-whole_items-loop-first
invariant-whole_items-loop-first g l =
    ((items : json.Items) (rest : List Held) (whole : Items) → l.initial.left ≡ held_items items ++ rest → of_items items ≡ Some whole
    → (others : json.Items) × (more : Items) × (l.left ≡ held_items others ++ rest) × (of_items others ≡ Some more)
    × (whole ≡ items_after l.items.items more))
    × (length l.left ≤ length l.initial.left)

abbrev pub decreases-whole_items-loop-first : goal.decreases-whole_items-loop-first
decreases-whole_items-loop-first g l = length l.left

-- the members that are left go in among those before, and this is kept of these
abbrev pub invariant-outlined_members-loop-first : goal.invariant-outlined_members-loop-first
invariant-outlined_members-loop-first g l =
    ((members : json.Members) (rest : List Held) (whole : Members) → l.initial.left ≡ held_members members ++ rest
    → of_members members no_members ≡ Some whole
    → (others : json.Members) × (before : Members) × (l.left ≡ held_members others ++ rest) × (of_members others before ≡ Some whole)
    × AreSorted before × (members_by g.S.Sieve.keeps l.sieve before ≡ members_view l.members.entries))
    × (length l.left ≤ length l.initial.left)

abbrev pub decreases-outlined_members-loop-first : goal.decreases-outlined_members-loop-first
decreases-outlined_members-loop-first g l = length l.left
