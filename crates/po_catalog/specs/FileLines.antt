-- The lines of a file, and their numbers.
use Rattle.std.specs.Prelude.{◌≡◌, ℕ, ◌+◌, ◌==◌, List, [], ◌∷◌, ◌++◌, Option, Some, None, All, if◌then◌else◌}

-- ---- a text, cut at the first of a byte

abbrev pub begun_with : ℕ → List ℕ × Option (List ℕ) → List ℕ × Option (List ℕ)
begun_with b cut = (b ∷ cut.0, cut.1)

-- what stands before the first such byte, and what stands behind it, if there is one
abbrev pub cut_at : ℕ → List ℕ → List ℕ × Option (List ℕ)
cut_at byte [] = ([], None)
cut_at byte (b ∷ s) = if b == byte then ([], Some s) else begun_with b (cut_at byte s)

-- ---- lines

-- the first line goes on with a byte before it
abbrev pub first_line_begun_with : ℕ → List (List ℕ) → List (List ℕ)
first_line_begun_with b [] = []
first_line_begun_with b (line ∷ lines) = (b ∷ line) ∷ lines

-- what stands before, between and behind the newlines of a file
abbrev pub lines_of : List ℕ → List (List ℕ)
lines_of [] = [] ∷ []
lines_of (b ∷ s) = if b == 10 then [] ∷ lines_of s else first_line_begun_with b (lines_of s)

-- each line with its number, which is one more than that of the line before it
abbrev pub numbered : ℕ → List (List ℕ) → List (ℕ × List ℕ)
numbered n [] = []
numbered n (line ∷ lines) = (n, line) ∷ numbered (n + 1) lines

-- the lines of what is left of a file, if anything is
abbrev pub lines_left : Option (List ℕ) → List (List ℕ)
lines_left None = []
lines_left (Some s) = lines_of s

-- ---- numbers

abbrev pub newlines : List ℕ → ℕ
newlines [] = 0
newlines (b ∷ s) = if b == 10 then newlines s + 1 else newlines s

-- the line stands in the file, and its number is one more than the newlines before it
abbrev pub IsNumberedIn : List ℕ → ℕ × List ℕ → Type 0
IsNumberedIn file line = (before : List ℕ) × (after : List ℕ) × (file ≡ before ++ (line.1 ++ after)) × (line.0 ≡ newlines before + 1)

-- the number of each line of a file is one more than the newlines before it
abbrev pub NumbersCountNewlines : Type 0
NumbersCountNewlines = (file : List ℕ) → All (IsNumberedIn file) (numbered 1 (lines_of file))
