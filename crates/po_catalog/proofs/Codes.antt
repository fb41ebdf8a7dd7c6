-- Codes of characters, by their digits.
use Rattle.std.proofs.Common.{◌≡◌, ◌+◌, ◌*◌, ◌<◌, ◌≤◌, ℕ, suc, List, [], ◌∷◌, Bool, true, false, Some, None, nat_lt, ap, ◌∙◌, arith, lt-ltb, le-ltb, if◌then◌else◌}
use Rattle.po_catalog.specs.Quoted.{digit_value, hexadecimal, octal, of_byte}

pub hexadecimal_digit : (n b : ℕ) (s : List ℕ) → digit_value b < 16 → hexadecimal n (b ∷ s) ≡ hexadecimal (n * 16 + digit_value b) s
hexadecimal_digit n b s lt =
    ap (λ (t : Bool). if t then hexadecimal (n * 16 + digit_value b) s else (n, b ∷ s)) (lt-ltb (digit_value b) 16 lt)

pub hexadecimal_end : (n b : ℕ) (s : List ℕ) → 16 ≤ digit_value b → hexadecimal n (b ∷ s) ≡ (n, b ∷ s)
hexadecimal_end n b s le =
    ap (λ (t : Bool). if t then hexadecimal (n * 16 + digit_value b) s else (n, b ∷ s)) (le-ltb (digit_value b) 16 le)

pub octal_digit : (more n b : ℕ) (s : List ℕ) → digit_value b < 8 → octal (suc more) n (b ∷ s) ≡ octal more (n * 8 + digit_value b) s
octal_digit more n b s lt =
    ap (λ (t : Bool). if t then octal more (n * 8 + digit_value b) s else (n, b ∷ s)) (lt-ltb (digit_value b) 8 lt)

pub octal_end : (more n b : ℕ) (s : List ℕ) → 8 ≤ digit_value b → octal (suc more) n (b ∷ s) ≡ (n, b ∷ s)
octal_end more n b s le =
    ap (λ (t : Bool). if t then octal more (n * 8 + digit_value b) s else (n, b ∷ s)) (le-ltb (digit_value b) 8 le)

-- a code is a byte, or it isn't
pub of_byte_code : (code : ℕ) (s : List ℕ) → code < 256 → of_byte (code, s) ≡ Some (code, s)
of_byte_code code s lt = ap (λ (t : Bool). if t then Some (code, s) else None) (lt-ltb code 256 lt)

pub of_byte_none : (code : ℕ × List ℕ) → 256 ≤ code.0 → of_byte code ≡ None
of_byte_none code le = ap (λ (t : Bool). if t then Some code else None) (le-ltb code.0 256 le)

-- digits make no number smaller
grows : (n : ℕ) (s : List ℕ) → n ≤ (hexadecimal n s).0
grows n [] = omega arith
grows n (b ∷ s) =
    let more : n * 16 + digit_value b ≤ (hexadecimal (n * 16 + digit_value b) s).0 = grows (n * 16 + digit_value b) s in
    elim (nat_lt (digit_value b) 16) as (λ (t : Bool). n ≤ (if t then hexadecimal (n * 16 + digit_value b) s else (n, b ∷ s)).0) [
      | true ↦ omega (arith, more)
      | false ↦ omega arith
    ]

-- a further digit makes a code of 16 or more no byte
pub too_large : (n b : ℕ) (s : List ℕ) → 16 ≤ n → digit_value b < 16 → of_byte (hexadecimal n (b ∷ s)) ≡ None
too_large n b s le lt =
    let more : n * 16 + digit_value b ≤ (hexadecimal (n * 16 + digit_value b) s).0 = grows (n * 16 + digit_value b) s in
    ap of_byte (hexadecimal_digit n b s lt) ∙ of_byte_none (hexadecimal (n * 16 + digit_value b) s) (omega (arith, more))
