-- Members that are put one after the other.
use Rattle.std.proofs.Common.{◌≡◌, ℕ, suc, ◌+◌, ◌<◌, List, length, drop, get_or, fold, String, Global, string_bytes, ap, add-one, rules}
use Rattle.std.proofs.Math.Seq.{drop-cons}
use Rattle.serde_json.specs.Data.{string}
use Rattle.serde_json.specs.View.{view}
use Rattle.serde_json.specs.declared.value.Value.{the_lemmas}
use Rattle.serde_json.specs.declared.value.Value as json

-- a step of a fold
pub next_fold : {A B : Type 0} (f : B → A → B) (xs : List A) (i : ℕ) (d : A) (before after : B) → i < length xs
    → after ≡ f before (get_or xs i d)
    → fold f after (drop (i + 1) xs) ≡ fold f before (drop i xs)
next_fold f xs i d before after below is = rw (add-one, drop-cons xs i d below) (ap (λ b. fold f b (drop (suc i) xs)) is)

-- a text is seen as its bytes
pub view-String : (s : String Global) → view (json.String s) ≡ string (string_bytes s)
view-String s = search (rules, the_lemmas)
