-- Rows that are read, member by member.
use Rattle.std.proofs.Common.{◌≡◌, ℕ, List, [], ◌∷◌, ◌++◌, Ok, Err, refl, sym, ap, ◌∙◌}
use Rattle.plural_base.specs.DocumentJson.{Rows, rows_meant}
use Rattle.plural_base.specs.Json.{Stands, ◌>>=◌}
use Rattle.std.proofs.lemmas.List.{append_assoc}
use Rattle.std.specs.Map.{keys_of}
use Rattle.plural_base.specs.Inner.JsonSteps.{Ascend}
use Rattle.plural_base.proofs.reading.Rows.{ascend_push}
use Rattle.serde_json.specs.Data.{Data, Members, member}

-- rows that are read after others
abbrev pub behind : {A : Type 0} → Rows A → Stands (Rows A) → Stands (Rows A)
behind rows (Ok more) = Ok (rows ++ more)
behind rows (Err e) = Err e

-- after no rows
pub behind_none : {A : Type 0} (more : Stands (Rows A)) → more ≡ behind [] more
behind_none (Ok more) = refl
behind_none (Err e) = refl

module _ {A : Type 0} (meant : Data → Stands A) (rows : Rows A) (k : List ℕ) (d : Data) (ms : Members) where
  -- a row after others, before the remaining ones, is pushed to them
  push_behind : (first : A) (more : Stands (Rows A))
      → behind rows (more >>= λ rest. Ok ((k, first) ∷ rest)) ≡ behind (rows ++ (k, first) ∷ []) more
  push_behind first (Ok more) = ap Ok (sym (append_assoc rows ((k, first) ∷ []) more))
  push_behind first (Err e) = refl

  -- a member that is read is the next row
  pub taken_row : (first : A) → meant d ≡ Ok first
      → behind rows (rows_meant meant (member k d ms)) ≡ behind (rows ++ (k, first) ∷ []) (rows_meant meant ms)
  taken_row first h = rw h (push_behind first (rows_meant meant ms))

-- ---- A step

module _ {A : Type 0} (rows new : Rows A) (k : List ℕ) (first : A) (keys : List (List ℕ)) (put : new ≡ rows ++ (k, first) ∷ []) where
  -- the keys still ascend
  pub order_kept : Ascend (keys_of rows ++ k ∷ keys) → Ascend (keys_of new ++ keys)
  order_kept h = rw put (ascend_push rows k first keys h)

  -- and the rows are the rows of the members so far
  pub rows_kept : (meant : Data → Stands A) (d : Data) (ms : Members) → meant d ≡ Ok first
      → behind rows (rows_meant meant (member k d ms)) ≡ behind new (rows_meant meant ms)
  rows_kept meant d ms read = taken_row meant rows k d ms first read ∙ ap (λ r. behind r (rows_meant meant ms)) (sym put)
