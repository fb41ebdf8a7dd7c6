-- Not a definition of the subject: similar keys as a list, and how a key is like a language.
use Rattle.std.specs.Prelude.{ℕ, List, [], ◌∷◌, ◌++◌, Bool, filter}
use Rattle.form_commands.specs.SimilarKeys.{first_three, is_one_edit, is_only_alike}
use Rattle.form_commands.specs.declared.similar_keys.Likeness.{Likeness}
use Rattle.form_commands.specs.declared.similar_keys.Likeness.TheVariants.{OneEdit, Beginning}
use Rattle.form_commands.specs.declared.similar_keys.SimilarKeys.{SimilarKeys}
use Rattle.form_commands.specs.declared.similar_keys.SimilarKeys.TheVariants.{Nothing, One, Two, Three}

-- the keys as a list
abbrev pub similar_key_list : SimilarKeys → List (List ℕ)
similar_key_list Nothing = []
similar_key_list (One first) = first ∷ []
similar_key_list (Two first second) = first ∷ second ∷ []
similar_key_list (Three first second third) = first ∷ second ∷ third ∷ []

-- a key is like a language in this way
abbrev pub is_like : Likeness → List ℕ → List ℕ → Bool
is_like OneEdit language key = is_one_edit language key
is_like Beginning language key = is_only_alike language key

-- the first three of some keys and of those of a list that are like a language
abbrev pub told_in : Likeness → List ℕ → SimilarKeys → List (List ℕ) → SimilarKeys
told_in likeness language before keys = first_three (similar_key_list before ++ filter (is_like likeness language) keys)
