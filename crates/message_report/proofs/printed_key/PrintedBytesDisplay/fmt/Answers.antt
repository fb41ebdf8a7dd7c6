use Rattle.std.proofs.Common.{◌≡◌, ℕ, Bool, true, false, List, refl}
use Rattle.std.specs.Str.{IsUtf8, is_utf8}
use Rattle.std.proofs.lemmas.Str.{IsUtf8-from_is_utf8, is_utf8-from_IsUtf8}
use Rattle.message_report.proofs.printed_key.PrintedBytesDisplay.fmt.Goals as goal

-- bytes that are no text
not_utf8 : (bytes : List ℕ) → (IsUtf8 bytes → ⊥) → is_utf8 bytes ≡ false
not_utf8 bytes invalid = by (is_utf8 bytes) refl
  where
    by : (is : Bool) → is_utf8 bytes ≡ is → is_utf8 bytes ≡ false
    by true e = absurd (invalid (IsUtf8-from_is_utf8 bytes e))
    by false e = e

pub returns-in-Ok-clause-writes : goal.returns-in-Ok-clause-writes
returns-in-Ok-clause-writes g c =
    rw (is_utf8-from_IsUtf8 c.args.self.now.0.now c.in-Ok.ensures.cases.1)
    (rw c.in-Ok.ensures.cases.0 at (rw c.printed_name.ensures at c.write.ensures.writes))

pub returns-in-Err-clause-writes : goal.returns-in-Err-clause-writes
returns-in-Err-clause-writes g c = rw (not_utf8 c.args.self.now.0.now c.in-Err.ensures.cases.0) c.write-in-Err.ensures.writes
