-- Not a definition of the subject: the keys of an object so far, and what is found behind them.
use Rattle.std.specs.Prelude.{◌≡◌, ℕ, List, ◌++◌, map, bytes_eq, nat_lt, Option, None}
use Rattle.std.specs.Borrow.{Bor}
use Rattle.std.specs.BTreeSet.{BTreeSet}
use Rattle.std.specs.List.{count_by, list_any}
use Rattle.document_tokens.specs.HeldTokens.{Held}
use Rattle.plural_documents.specs.RepeatedKeys.{AreRepeated, Path, RepeatedAt, repeated_view}
use Rattle.plural_documents.specs.declared.repeated_key.RepeatedKey.{RepeatedKey}
use Rattle.plural_documents.specs.declared.repeated_key.StandingKeys.{StandingKeys}

abbrev pub names_in_set : BTreeSet (Bor (List ℕ)) → List (List ℕ)
names_in_set set = map (λ key. key.now) set.keys

-- of these keys
pub record AreStanding (keys : List (List ℕ)) (standing : StandingKeys) : Type 0 where
  pub once : (key : List ℕ) → list_any (bytes_eq key) (names_in_set standing.once) ≡ nat_lt 0 (count_by (bytes_eq key) keys)
  pub again : (key : List ℕ) → list_any (bytes_eq key) (names_in_set standing.again) ≡ nat_lt 1 (count_by (bytes_eq key) keys)

-- the path of an object alone
abbrev pub object_path : Held → Option Path → Option Path
object_path Held.begin_object path = path
object_path Held.end_object path = None
object_path Held.begin_array path = None
object_path Held.end_array path = None
object_path (Held.key name) path = None
object_path (Held.string text) path = None
object_path (Held.number n) path = None
object_path (Held.boolean truth) path = None
object_path Held.null path = None

-- these were added
abbrev pub HasAdded : List RepeatedKey → List RepeatedKey → List RepeatedAt → Type 0
HasAdded old new more = map repeated_view new ≡ map repeated_view old ++ more

-- those of an object with these keys were added
abbrev pub IsFoundAgain : List (List ℕ) → Path → List RepeatedKey → List RepeatedKey → Type 0
IsFoundAgain keys path old new = (own : List (List ℕ)) × AreRepeated keys own × HasAdded old new (map (λ key. (path, key)) own)

-- what is left is the rest, and these were added
abbrev pub AddsRepeated : (List RepeatedAt → Type 0) → List RepeatedKey → List RepeatedKey → List Held → List Held → Type 0
AddsRepeated Are old new rest left = (left ≡ rest) × ((more : List RepeatedAt) × Are more × HasAdded old new more)
