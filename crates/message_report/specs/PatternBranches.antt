-- Which branches of a plural argument in a pattern are for exactly 0 and 1, and which say the
-- number (docs/PATTERNS.md).
--     inside_of depth parts      of these parts, those in the branch at the front, of an argument
--         at a depth
--     IsOwn number has_offset branches own      whether exactly this number has a branch of its own
use Rattle.std.specs.Prelude.{◌≡◌, ◌↔◌, ℕ, ◌+◌, ◌==◌, nat_lt, Bool, true, false, IsTrue, ◌||◌, bytes_eq, List, [], ◌∷◌, is_some, if◌then◌else◌}
use Rattle.fixed_decimal.specs.Written.{CompactNumber, WritesCompact}
use Rattle.icu_plurals.specs.Categories.{name_of}
use Rattle.icu_plurals.specs.declared.PluralCategory.{PluralCategory}
use Rattle.message_format.specs.FormatBranches.{HasBranchOfValue, branch_of_keyword}
use Rattle.message_pattern.specs.PatternParts.{Branching, Part, Selector, Exactly, Keyword, Hash, Argument}

-- the parts that are deeper than the argument, up to the next that isn't
abbrev pub inside_of : ℕ → List Part → List Part
inside_of depth [] = []
inside_of depth (p ∷ ps) = if nat_lt depth p.depth then p ∷ inside_of depth ps else []

-- ---- What a branch is for

-- Whether exactly the number that a text writes has a branch of its own: one that `message_format`
-- chooses for the number by its value. Behind an offset none counts, where `=0` is for another
-- number than that which has the category.
abbrev pub IsOwn : List ℕ → Bool → List Branching → Bool → Type 0
IsOwn text true branches own = own ≡ false
IsOwn text false branches own = (x : CompactNumber) × WritesCompact text x × (IsTrue own ↔ HasBranchOfValue x branches)

abbrev pub has_category_branch : PluralCategory → List Branching → Bool
has_category_branch category branches = is_some (branch_of_keyword (name_of category) branches)

-- ---- Whether a branch says the number

-- the part is `#` of an argument of this depth, or the argument of this name again
abbrev pub says_number : ℕ → List ℕ → Part → Bool
says_number depth name p =
    elim p.piece as (λ _. Bool) [
      | Hash ↦ p.depth == depth + 1
      | Argument other ↦ bytes_eq other name
      | _ ↦ false
    ]

abbrev pub has_number : ℕ → List ℕ → List Part → Bool
has_number depth name [] = false
has_number depth name (p ∷ ps) = says_number depth name p || has_number depth name ps

-- ---- Selectors that stand twice

-- of the same kind, with the same bytes
abbrev pub same_selector : Selector → Selector → Bool
same_selector (Exactly a) (Exactly b) = bytes_eq a b
same_selector (Exactly a) (Keyword b) = false
same_selector (Keyword a) (Exactly b) = false
same_selector (Keyword a) (Keyword b) = bytes_eq a b

abbrev pub stands_in : Selector → List Selector → Bool
stands_in selector [] = false
stands_in selector (s ∷ ss) = same_selector s selector || stands_in selector ss
