-- What the reader of a text in quotation marks may return: what stands behind the first mark says,
-- or out of memory.
use Rattle.std.specs.Prelude.{◌≡◌, ◌⊎◌, ℕ, List, Result, Ok, Err}
use Rattle.std.specs.Borrow.{Bor}
use Rattle.std.specs.Global.{Vec}
use Rattle.po_catalog.specs.declared.fault.Cause.{Cause}
use Rattle.po_catalog.specs.declared.fault.ReadError.{ReadError}
use Rattle.po_catalog.specs.declared.fault.ReadError.TheVariants.{Fault, Memory}
use Rattle.po_catalog.specs.Quoted.{Says}

-- what is returned is what is said
abbrev pub IsSaid : List ℕ → Result (Vec ℕ × Bor (List ℕ)) ReadError → Type 0
IsSaid line (Ok said) = Says line (Ok (said.0.items, said.1.now))
IsSaid line (Err (Fault cause)) = Says line (Err cause)
IsSaid line (Err Memory) = Unit {0}

-- this text and this rest are returned, unless memory ran out
abbrev pub ReturnsText : Result (Vec ℕ × Bor (List ℕ)) ReadError → List ℕ → List ℕ → Type 0
ReturnsText (Ok said) text rest = (said.0.items ≡ text) × (said.1.now ≡ rest)
ReturnsText (Err error) text rest = error ≡ Memory

-- a text is returned if and only if the line says it, and a fault if and only if the line has it,
-- out of memory aside
pub record ReadsTextExactly (line : List ℕ) (result : Result (Vec ℕ × Bor (List ℕ)) ReadError) : Type 0 where
  pub only : IsSaid line result
  pub text : (text rest : List ℕ) → Says line (Ok (text, rest)) → ReturnsText result text rest
  pub fault : (cause : Cause) → Says line (Err cause) → (result ≡ Err (Fault cause)) ⊎ (result ≡ Err Memory)
