-- The bytes of a catalog: white space, words and flags.
use Rattle.std.specs.Prelude.{ℕ, ◌==◌, ◌&&◌, ◌||◌, Bool, not, nat_le, List, [], ◌∷◌, if◌then◌else◌, true, false}
use Rattle.std.specs.List.{filter, slice_split}

abbrev pub is_within : ℕ → ℕ → ℕ → Bool
is_within low high b = nat_le low b && nat_le b high

-- a blank, or a control character that C's isspace has
abbrev pub is_white : ℕ → Bool
is_white b = b == 32 || is_within 9 13 b

-- a letter or a digit of ASCII, or a low line
abbrev pub is_of_keyword : ℕ → Bool
is_of_keyword b = is_within 97 122 b || b == 95 || is_within 65 90 b || is_within 48 57 b

-- flags stand between commas and white space
abbrev pub is_between_flags : ℕ → Bool
is_between_flags b = b == 44 || is_white b

abbrev pub is_of_flag : ℕ → Bool
is_of_flag b = not (is_between_flags b)

-- the longest front of such bytes
abbrev pub catalog_run_front : (ℕ → Bool) → List ℕ → List ℕ
catalog_run_front is_such [] = []
catalog_run_front is_such (b ∷ s) = if is_such b then b ∷ catalog_run_front is_such s else []

-- what follows it
abbrev pub behind_catalog_run : (ℕ → Bool) → List ℕ → List ℕ
behind_catalog_run is_such [] = []
behind_catalog_run is_such (b ∷ s) = if is_such b then behind_catalog_run is_such s else b ∷ s

-- the first flag of a text, which is empty if there is none
abbrev pub first_flag : List ℕ → List ℕ
first_flag s = catalog_run_front is_of_flag (behind_catalog_run is_between_flags s)

-- what follows it
abbrev pub behind_flag : List ℕ → List ℕ
behind_flag s = behind_catalog_run is_of_flag (behind_catalog_run is_between_flags s)

-- ---- the flags of a message: the words between commas and white space

abbrev pub is_any : List ℕ → Bool
is_any [] = false
is_any (b ∷ s) = true

-- what stands between, before and behind the commas and the white space of a text, if it is any byte
abbrev pub message_flags_of : List ℕ → List (List ℕ)
message_flags_of s = filter is_any (slice_split is_between_flags s)
