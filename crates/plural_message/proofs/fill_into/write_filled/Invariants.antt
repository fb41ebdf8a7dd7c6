use Rattle.std.proofs.Common.{◌≡◌, ℕ, ◌≤◌, List, ◌++◌, length, take, drop}
use Rattle.std.specs.Str.Iter.{split_inclusive_pattern, split_inclusive_text}
use Rattle.plural_message.specs.Messages.{IsFilling}
use Rattle.plural_message.proofs.fill_into.write_filled.Given as goal

-- What was written, followed by the remaining text filled, is the whole text filled; what lies
-- behind it in the buffer is unchanged; the text is cut at each `}`.
abbrev pub invariant-loop-piece : goal.invariant-loop-piece
invariant-loop-piece l =
    (split_inclusive_pattern l.piece-iterator ≡ 125) × (l.at ≤ length l.out) × (drop l.at l.out ≡ drop l.at l.fn.out)
    × ((rest : List ℕ) → IsFilling l.number (split_inclusive_text l.piece-iterator) rest
    → IsFilling l.number l.text (take l.at l.out ++ rest))
