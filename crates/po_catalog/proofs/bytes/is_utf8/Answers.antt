use Rattle.std.proofs.Common.{◌≡◌, ◌∙◌, ℕ, List, Bool, true, false, refl, sym}
use Rattle.std.specs.Prelude.{Result, Ok, Err, MatchResult, is_ok}
use Rattle.std.specs.Str.{IsUtf8, is_utf8}
use Rattle.std.proofs.lemmas.Str.{is_utf8-from_IsUtf8, IsUtf8-from_is_utf8}
use Rattle.po_catalog.proofs.bytes.is_utf8.Goals as goal

-- the test is false of bytes that aren't UTF-8
not_utf8 : (bytes : List ℕ) → ¬ (IsUtf8 bytes) → false ≡ is_utf8 bytes
not_utf8 bytes n = by (is_utf8 bytes) refl
  where
    by : (b : Bool) → is_utf8 bytes ≡ b → false ≡ is_utf8 bytes
    by true e = absurd (n (IsUtf8-from_is_utf8 bytes e))
    by false e = sym e

-- the result of reading a text says whether the bytes are UTF-8
tells : {T E : Type 0} (read : Result T E) (bytes : List ℕ) (P : T → Type 0) (Q : E → Type 0)
    → MatchResult read (λ text. P text × IsUtf8 bytes) (λ fault. (¬ (IsUtf8 bytes)) × Q fault) → is_ok read ≡ is_utf8 bytes
tells (Ok text) bytes P Q h = sym (is_utf8-from_IsUtf8 bytes h.1)
tells (Err fault) bytes P Q h = not_utf8 bytes h.0

pub returns : goal.returns
returns c = c.is_ok.ensures.value ∙ tells c.from_utf8.result c.args.bytes.now _ _ c.from_utf8.ensures.cases
