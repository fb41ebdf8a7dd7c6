-- The key of a map that is a text itself.
use Rattle.std.proofs.Common.{◌≡◌, List, [], ◌∷◌, ℕ, Bool, true, false, Option, Some, None, option_map, refl, subst, sym, String, Global, bytes_eq, string_bytes}
use Rattle.std.specs.Prelude.{cond, IsUtf8}
use Rattle.std.specs.List.{find}
use Rattle.std.specs.Map.{lookup_key}
use Rattle.std.specs.BTreeMap.{is_at}
use Rattle.std.specs.Cmp.Lexicographic.{slice_cmp}
use Rattle.std.specs.Ordering.{nat_cmp}
use Rattle.std.proofs.lemmas.Map.Text.{is_eq-slice_cmp}
use Rattle.std.proofs.lemmas.Slice.Eq.{bytes_eq-Decides}
use Rattle.std.proofs.lemmas.Str.{IsUtf8-string_bytes}
use Rattle.serde_json.specs.View.{members_view}
use Rattle.serde_json.specs.declared.Value.{Value}
use Rattle.plural_fallback.specs.LocalesJson.{keys_of}

abbrev pub Entry : Type 0
Entry = String Global × Value

found_or : (same : Bool) (key : String Global) (rest : Option (String Global)) (found : Option (List ℕ))
    → option_map (λ k. string_bytes k) rest ≡ found
    → option_map (λ k. string_bytes k) (cond same (Some key) rest) ≡ cond same (Some (string_bytes key)) found
found_or true key rest found after = refl
found_or false key rest found after = after

-- it is found by a look-up
pub looked_up : (name : List ℕ) (es : List Entry)
    → option_map (λ k. string_bytes k) (lookup_key (is_at (λ k. slice_cmp nat_cmp name (string_bytes k))) es) ≡ find (bytes_eq name) (keys_of (members_view es))
looked_up name [] = refl
looked_up name (e ∷ es) = rw (is_eq-slice_cmp name (string_bytes e.0)) (found_or (bytes_eq name (string_bytes e.0)) e.0 _ _ (looked_up name es))

not_found : (here : Bool) (key : List ℕ) (found : Option (List ℕ)) → (here ≡ true → ⊥) → found ≡ None → cond here (Some key) found ≡ None
not_found true key found differs after = absurd (differs refl)
not_found false key found differs after = after

-- bytes that are no text are no key
pub no_text : (name : List ℕ) (es : List Entry) → (IsUtf8 name → ⊥) → find (bytes_eq name) (keys_of (members_view es)) ≡ None
no_text name [] untold = refl
no_text name (e ∷ es) untold =
    not_found _ _ _
    (λ same. untold (subst IsUtf8 (sym ((bytes_eq-Decides name (string_bytes e.0)).0 same)) (IsUtf8-string_bytes e.0)))
    (no_text name es untold)
