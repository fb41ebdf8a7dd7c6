use Rattle.std.proofs.Common.{◌≡◌, ℕ, Bool, true, false, List, refl}
use Rattle.std.specs.Str.{IsUtf8, is_utf8}
use Rattle.std.proofs.lemmas.Str.{IsUtf8-from_is_utf8, is_utf8-from_IsUtf8}
use Rattle.finding_formats.proofs.members.put_bytes.Goals as goal

-- bytes that are no text
not_utf8 : (bytes : List ℕ) → (IsUtf8 bytes → ⊥) → is_utf8 bytes ≡ false
not_utf8 bytes invalid = by (is_utf8 bytes) refl
  where
    by : (is : Bool) → is_utf8 bytes ≡ is → is_utf8 bytes ≡ false
    by true e = absurd (invalid (IsUtf8-from_is_utf8 bytes e))
    by false e = e

pub returns-in-Ok : goal.returns-in-Ok
returns-in-Ok c =
    rw (is_utf8-from_IsUtf8 c.args.bytes.now c.in-Ok.ensures.cases.1) (rw c.in-Ok.ensures.cases.0 at c.put_text.ensures)

pub returns-in_ok-cut_text-in-Err : goal.returns-in_ok-cut_text-in-Err
returns-in_ok-cut_text-in-Err c =
    rw (not_utf8 c.args.bytes.now c.in-Err.ensures.cases.0)
    (rw (c.as_str.ensures.value, c.in_ok-cut_text-in-Err.ensures) at c.put_text-in-Err.ensures)
