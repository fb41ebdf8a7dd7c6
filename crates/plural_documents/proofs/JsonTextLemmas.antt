-- The value that bytes write.
use Rattle.std.proofs.Common.{◌≡◌, ℕ, ◌<◌, List, [], ◌∷◌, length, Bool, true, false, Some, None, refl, sym, ◌∙◌, arith}
use Rattle.std.specs.Prelude.{if◌then◌else◌}
use Rattle.std.specs.Str.{IsUtf8, is_utf8}
use Rattle.std.proofs.lemmas.Str.{is_utf8-from_IsUtf8, IsUtf8-from_is_utf8}
use Rattle.serde_json.specs.Data.{Data}
use Rattle.serde_json.specs.Read.{read}
use Rattle.serde_json.proofs.OnLiterals.{serde_json_on_literals}
use Rattle.plural_documents.specs.Inputs.{json_of}

-- bytes that write a value have that value
pub value_there : (bytes : List ℕ) (d : Data) → IsUtf8 bytes → read bytes ≡ Some d → json_of bytes ≡ Some d
value_there bytes d text e = rw (is_utf8-from_IsUtf8 bytes text, e) refl

-- bytes that aren't UTF-8, or write no value, have no value
pub value_refused : (bytes : List ℕ) → (IsUtf8 bytes → read bytes ≡ None) → json_of bytes ≡ None
value_refused bytes none = refused bytes (is_utf8 bytes) refl none
  where
    refused : (bytes : List ℕ) (b : Bool) → is_utf8 bytes ≡ b → (IsUtf8 bytes → read bytes ≡ None) → json_of bytes ≡ None
    refused bytes true e none = rw (e, none (IsUtf8-from_is_utf8 bytes e)) refl
    refused bytes false e none = rw e refl

nothing_read : read [] ≡ None
unfolding serde_json_on_literals
nothing_read = refl

none_of_nothing : json_of [] ≡ None
none_of_nothing = by (is_utf8 [])
  where
    by : (b : Bool) → if b then read [] else None ≡ None
    by true = nothing_read
    by false = refl

-- bytes that have a value aren't empty
pub some_bytes : (bytes : List ℕ) (whole : Data) → json_of bytes ≡ Some whole → 0 < length bytes
some_bytes [] whole is = let never : Some whole ≡ None = sym is ∙ none_of_nothing in absurd (cc)
some_bytes (byte ∷ bytes) whole is = omega arith
