-- No definitions of the subject: the text of parts, one after the other, for private contracts.
use Rattle.std.specs.Prelude.{ℕ, List, [], ◌∷◌, ◌++◌, Bool, false}
use Rattle.message_pattern.specs.declared.text.Context.{Context}
use Rattle.message_pattern.specs.declared.text.Context.TheVariants.{Whole}
use Rattle.message_pattern.specs.declared.print.Spot.{Spot}
use Rattle.message_pattern.specs.declared.print.Spot.TheVariants.{Message, Branches}
use Rattle.pattern_bytes.specs.PatternBytes.{hash, comma, opening, closing}
use Rattle.message_pattern.specs.PatternParts.{Part, PatternPiece, Text, Hash, Argument, Begin, Branch, End}
use Rattle.message_pattern.specs.PatternReading.{context_of}
use Rattle.message_pattern.specs.PatternPrinting.{end_of_quote, text_text, quoted_behind, kind_text, offset_text, selector_text}

abbrev pub is_quoted : Spot → Bool
is_quoted (Message quoted) = quoted
is_quoted Branches = false

-- what ends the text that stands there
abbrev pub end_of_text : Spot → List ℕ
end_of_text (Message quoted) = end_of_quote quoted
end_of_text Branches = []

-- what ends the branch that stands there
abbrev pub end_of_branch : Spot → List ℕ
end_of_branch (Message quoted) = end_of_quote quoted ++ closing ∷ []
end_of_branch Branches = []

-- what ends there before a piece
abbrev pub end_before : Spot → PatternPiece → List ℕ
end_before at (Text s) = []
end_before at (Branch sel) = end_of_branch at
end_before at End = end_of_branch at
end_before at p = end_of_text at

abbrev pub piece_text : Context → Spot → PatternPiece → List ℕ
piece_text c at (Text s) = text_text c (is_quoted at) s
piece_text c at Hash = end_of_text at ++ hash ∷ []
piece_text c at (Argument name) = end_of_text at ++ opening ∷ (name ++ closing ∷ [])
piece_text c at (Begin kind name offset) = end_of_text at ++ opening ∷ (name ++ comma ∷ (kind_text kind ++ offset_text offset))
piece_text c at (Branch sel) = end_of_branch at ++ 32 ∷ (selector_text sel ++ 32 ∷ opening ∷ [])
piece_text c at End = end_of_branch at ++ closing ∷ []

abbrev pub spot_behind : Context → Spot → PatternPiece → Spot
spot_behind c at (Text s) = Message (quoted_behind c (is_quoted at) s)
spot_behind c at (Begin kind name offset) = Branches
spot_behind c at p = Message false

-- the first context, or that of a whole pattern
abbrev pub first_context : List Context → Context
first_context [] = Whole
first_context (c ∷ outer) = c

abbrev pub other_contexts : List Context → List Context
other_contexts [] = []
other_contexts (c ∷ outer) = outer

abbrev pub context_behind : Context → List Context → PatternPiece → Context
context_behind c outer (Begin kind name offset) = context_of kind
context_behind c outer End = first_context outer
context_behind c outer p = c

abbrev pub outer_behind : Context → List Context → PatternPiece → List Context
outer_behind c outer (Begin kind name offset) = c ∷ outer
outer_behind c outer End = other_contexts outer
outer_behind c outer p = outer

-- the text of parts, in a context that stands in others, from the innermost on
abbrev pub fold : Context → List Context → Spot → List Part → List ℕ
fold c outer at [] = end_of_text at
fold c outer at (p ∷ ps) =
    piece_text c at p.piece ++ fold (context_behind c outer p.piece) (outer_behind c outer p.piece) (spot_behind c at p.piece) ps
