-- The order of the parts of a pattern: each argument that chooses has its selectors, each with its
-- branch, and an end.
use Rattle.std.specs.Prelude.{ℕ, ◌+◌, List, [], ◌∷◌, Bool, true, false, ◌&&◌, not, nat_eq, Option, Some, None, if◌then◌else◌}
use Rattle.message_pattern.specs.PatternParts.{Part, PatternPiece, Text, Begin, Branch, End}

abbrev pub is_begin : PatternPiece → Bool
is_begin (Begin kind name offset) = true
is_begin _ = false

abbrev pub is_selector : PatternPiece → Bool
is_selector (Branch selector) = true
is_selector _ = false

abbrev pub is_argument_end : PatternPiece → Bool
is_argument_end End = true
is_argument_end _ = false

-- a selector ends the branch before it, and an end the last one
abbrev pub ends_branch : PatternPiece → Bool
ends_branch (Branch selector) = true
ends_branch End = true
ends_branch _ = false

-- how many branches what follows a part is in, if it doesn't end one: a beginning and a selector open one
abbrev pub depth_behind : Part → ℕ
depth_behind p = if is_begin p.piece then p.depth + 1 else if is_selector p.piece then p.depth + 1 else p.depth

-- a part stands where another one leaves off; behind a beginning stands a selector, or the end
abbrev pub may_follow : Part → Part → Bool
may_follow p q =
    if ends_branch q.piece then nat_eq (q.depth + 1) (depth_behind p)
    else not (is_begin p.piece) && nat_eq q.depth (depth_behind p)

-- what the first part follows
abbrev pub before_all : Part
before_all = record { depth = 0; piece = Text [] }

-- The place of the first part that may not follow the one before it, and behind the last part the
-- place of one that is missing; the first part is at the given place.
abbrev pub first_misplaced : ℕ → Part → List Part → Option ℕ
first_misplaced place p [] = if nat_eq (depth_behind p) 0 then None else Some place
first_misplaced place p (q ∷ qs) = if may_follow p q then first_misplaced (place + 1) q qs else Some place
