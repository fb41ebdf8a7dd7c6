use Rattle.std.proofs.Common.{◌≡◌, ◌≤◌, [], ◌++◌, true, length, map}
use Rattle.std.specs.List.{list_all}
use Rattle.document_tokens.specs.Inner.HeldParts.{fits}
use Rattle.document_tokens.specs.HeldTokens.{held_of, held_token}
use Rattle.document_tokens.specs.TextTokens.{given_names, is_held_name}
use Rattle.document_tokens.specs.Inner.OpenBrackets.{Comes, IsAfter, most_open}
use Rattle.document_tokens.proofs.HeldPartLemmas.{part_held}
use Rattle.document_tokens.proofs.read_tokens.read_tokens.Given as goal

-- what is held so far comes before what is held of the rest, and the text is that of one value if
-- the rest may come here
abbrev pub invariant-loop-token : goal.invariant-loop-token
invariant-loop-token l =
    (part_held (is_held_name (given_names l.names)) 0 true (map held_of l.initial.reader)
    ≡ map held_token l.tokens.items ++ part_held (is_held_name (given_names l.names)) (length l.place.«open») l.is_held
    (map held_of l.reader))
    × (list_all fits l.initial.reader ≡ list_all fits l.reader) × (length l.reader ≤ length l.initial.reader)
    × (Comes most_open [] true [] l.initial.reader → IsAfter l.place l.reader)
    × (IsAfter l.place l.reader → Comes most_open [] true [] l.initial.reader)

abbrev pub decreases-loop-token : goal.decreases-loop-token
decreases-loop-token l = length l.reader
