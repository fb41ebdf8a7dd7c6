-- The keys that are named where a language is unknown: first those that are one edit from it, then
-- those that begin as it, in the order of the keys, and at most three in all.
--     similar_keys language keys      these of a list of keys
--     similar_text similar      how they are printed
use Rattle.std.specs.Prelude.{ℕ, ◌==◌, List, [], ◌∷◌, ◌++◌, codes, filter, map, take, Bool, false, not, ◌&&◌, ◌||◌, if◌then◌else◌}
use Rattle.std.specs.List.{list_any}
use Rattle.plural_fallback.specs.LocaleNames.{folded, is_same}
use Rattle.form_commands.specs.declared.similar_keys.SimilarKeys.{SimilarKeys}
use Rattle.form_commands.specs.declared.similar_keys.SimilarKeys.TheVariants.{Nothing, One, Two, Three}

-- ---- One edit

-- what a name leaves without one of its bytes
abbrev pub without_one : List ℕ → List (List ℕ)
without_one [] = []
without_one (byte ∷ bytes) = bytes ∷ map (λ left. byte ∷ left) (without_one bytes)

-- one name without a byte is the other
abbrev pub is_one_longer : List ℕ → List ℕ → Bool
is_one_longer one other = list_any (λ left. is_same left other) (without_one one)

abbrev pub is_one_shorter : List ℕ → List ℕ → Bool
is_one_shorter one other = list_any (λ left. is_same one left) (without_one other)

-- they are as long, and behind the first bytes that differ they are the same
abbrev pub is_one_replaced : List ℕ → List ℕ → Bool
is_one_replaced [] others = false
is_one_replaced (one ∷ ones) [] = false
is_one_replaced (one ∷ ones) (other ∷ others) =
    if folded one == folded other then is_one_replaced ones others else is_same ones others

-- the edit distance is 1: a byte is taken away, added or replaced
abbrev pub is_one_edit : List ℕ → List ℕ → Bool
is_one_edit one other = is_one_longer one other || is_one_shorter one other || is_one_replaced one other

-- ---- The keys

-- the same first two letters
abbrev pub begins_alike : List ℕ → List ℕ → Bool
begins_alike language key = is_same (take 2 language) (take 2 key)

abbrev pub is_only_alike : List ℕ → List ℕ → Bool
is_only_alike language key = begins_alike language key && not (is_one_edit language key)

-- the first three of a list
abbrev pub first_three : List (List ℕ) → SimilarKeys
first_three [] = Nothing
first_three (first ∷ []) = One first
first_three (first ∷ second ∷ []) = Two first second
first_three (first ∷ second ∷ third ∷ keys) = Three first second third

abbrev pub similar_keys : List ℕ → List (List ℕ) → SimilarKeys
similar_keys language keys = first_three (filter (is_one_edit language) keys ++ filter (is_only_alike language) keys)

-- ---- How they are printed

-- `; similar: ru, run`
abbrev pub similar_text : SimilarKeys → List ℕ
similar_text Nothing = []
similar_text (One first) = codes "; similar: " ++ first
similar_text (Two first second) = codes "; similar: " ++ (first ++ (codes ", " ++ second))
similar_text (Three first second third) = codes "; similar: " ++ (first ++ (codes ", " ++ (second ++ (codes ", " ++ third))))
