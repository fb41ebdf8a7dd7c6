-- What private functions return, without where it lies in memory.
use Rattle.std.specs.Prelude.{◌≡◌, ℕ, ◌<◌, ◌++◌, List, length, Option, Some, None, Result, Ok, Err}
use Rattle.std.specs.Borrow.{Bor}
use Rattle.po_catalog.specs.declared.fault.Cause.{Cause}
use Rattle.po_catalog.specs.declared.fault.ReadError.{ReadError}
use Rattle.po_catalog.specs.declared.fault.ReadError.TheVariants as read
use Rattle.po_catalog.specs.declared.quoted.Said as private
use Rattle.po_catalog.specs.declared.quoted.Said.TheVariants as variants
use Rattle.po_catalog.specs.Quoted.{Breaks, Said, End, Byte, Says}

abbrev pub code_view : Option (ℕ × Bor (List ℕ)) → Option (ℕ × List ℕ)
code_view None = None
code_view (Some code) = Some (code.0, code.1.now)

abbrev pub said_view : private.Said → Result Said Cause
said_view (variants.End rest) = Ok (End rest.now)
said_view (variants.Byte byte rest) = Ok (Byte byte rest.now)
said_view (variants.Bad cause) = Err cause

-- what follows is shorter
abbrev pub IsShorterBehindSaid : private.Said → List ℕ → Type 0
IsShorterBehindSaid (variants.End rest) s = length rest.now < length s
IsShorterBehindSaid (variants.Byte byte rest) s = length rest.now < length s
IsShorterBehindSaid (variants.Bad cause) s = Unit {0}

-- the text goes on by what is said
abbrev pub GoesOn : List ℕ → List ℕ → List ℕ → Result (Bor (List ℕ)) ReadError → Type 0
GoesOn line old new (Ok rest) = (text : List ℕ) × (new ≡ old ++ text) × Says line (Ok (text, rest.now))
GoesOn line old new (Err (read.Fault cause)) = (text : List ℕ) × (new ≡ old ++ text) × Breaks line text cause
GoesOn line old new (Err read.Memory) = Unit {0}
