-- The lines of an input.
--     input_lines_of input      each as it stands before its newline, and what follows the last newline,
--         if that isn't empty
--     AreEndedIn input lines      those that stand before a newline
use Rattle.std.specs.Prelude.{◌≡◌, ◌≢◌, ℕ, ◌==◌, List, [], ◌∷◌, ◌++◌, ⊤, if◌then◌else◌}

-- the first line begins with a byte
abbrev pub lines_begun_with : ℕ → List (List ℕ) → List (List ℕ)
lines_begun_with byte [] = (byte ∷ []) ∷ []
lines_begun_with byte (line ∷ lines) = (byte ∷ line) ∷ lines

abbrev pub input_lines_of : List ℕ → List (List ℕ)
input_lines_of [] = []
input_lines_of (byte ∷ bytes) = if byte == 10 then [] ∷ input_lines_of bytes else lines_begun_with byte (input_lines_of bytes)

-- no byte ends a line
abbrev pub HasNoEnd : List ℕ → Type 0
HasNoEnd [] = ⊤
HasNoEnd (byte ∷ bytes) = (byte ≢ 10) × HasNoEnd bytes

-- whatever follows the input, these are its first lines, and then comes that of its last bytes,
-- which hasn't ended
abbrev pub AreEndedIn : List ℕ → List (List ℕ) → Type 0
AreEndedIn input lines =
    (last : List ℕ) × HasNoEnd last × ((rest : List ℕ) → input_lines_of (input ++ rest) ≡ lines ++ input_lines_of (last ++ rest))
