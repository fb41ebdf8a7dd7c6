use Rattle.std.proofs.Common.{◌≡◌, ℕ, ◌-◌, ◌^◌, List, ◌++◌, length, min}
use Rattle.std.specs.Str.Iter.{split_inclusive_pattern, split_inclusive_text}
use Rattle.plural_message.specs.Messages.{IsFilling}
use Rattle.plural_message.proofs.fill_into.filled_length.Given as goal

-- Some front part, whose length is told, followed by the remaining text filled, is the whole text
-- filled; the text is cut at each `}`.
abbrev pub invariant-loop-piece : goal.invariant-loop-piece
invariant-loop-piece l =
    (split_inclusive_pattern l.piece-iterator ≡ 125)
    × ((front : List ℕ) × (l.told ≡ min (length front) (2 ^ 64 - 1))
    × ((out : List ℕ) → IsFilling l.number (split_inclusive_text l.piece-iterator) out → IsFilling l.number l.text (front ++ out)))
