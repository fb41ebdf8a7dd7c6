-- How a line is printed in parts: the bytes behind its first ones, as far as there is room.
--     TakesPrinted w bytes v      what waits before and after bytes are printed
--     IsWaiting old now waiting text      of a text some bytes were written, and the others wait
use Rattle.std.specs.Prelude.{◌≡◌, ℕ, ◌-◌, true, false, List, [], ◌++◌, length, drop, Option}
use Rattle.std.specs.Io.KnownBytes.{Appends}
use Rattle.plural_documents.specs.declared.written_lines.WaitingBytes.{WaitingBytes}

-- from a byte of the line on
abbrev pub begun_at : ℕ → WaitingBytes → WaitingBytes
begun_at start w = record { bytes = w.bytes; skip = start; is_cut = false }

-- a beginning of the bytes waits behind the others; nothing does behind one that is cut
pub record TakesBehind (w : WaitingBytes) (bytes : List ℕ) (v : WaitingBytes) : Type 0 where
  pub taken : List ℕ
  pub rest : List ℕ
  pub split : bytes ≡ taken ++ rest
  pub items : v.bytes.items ≡ w.bytes.items ++ taken
  pub whole : v.is_cut ≡ false → (w.is_cut ≡ false) × (rest ≡ [])
  pub cut : w.is_cut ≡ true → taken ≡ []

-- that of bytes, without the first ones
abbrev pub TakesPrinted : WaitingBytes → List ℕ → WaitingBytes → Type 0
TakesPrinted w bytes v = TakesBehind w (drop w.skip bytes) v × (v.skip ≡ w.skip - length bytes)

-- of the text some bytes were written, and the others wait
abbrev pub IsWaiting : Option (List ℕ) → Option (List ℕ) → List ℕ → List ℕ → Type 0
IsWaiting old now waiting text = (taken : List ℕ) × (text ≡ taken ++ waiting) × Appends old now taken
