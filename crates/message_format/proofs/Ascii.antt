-- A text that writes a number is in ASCII.
use Rattle.std.proofs.Common.{◌<◌, ℕ, zero, suc, List, [], ◌∷◌, ◌++◌, codes, sym, subst, inl, inr, arith}
use Rattle.std.specs.List.{AllByRecursion}
use Rattle.std.specs.Str.{IsAscii, IsUtf8}
use Rattle.std.proofs.lemmas.Str.{IsUtf8-from_ascii}
use Rattle.fixed_decimal.specs.Digits.{AreDigits, text_of}
use Rattle.fixed_decimal.specs.Places.{Places}
use Rattle.fixed_decimal.specs.declared.sign.Sign.{Sign}
use Rattle.fixed_decimal.specs.declared.sign.Sign.TheVariants as sign
use Rattle.fixed_decimal.specs.Written.{CompactNumber, StandsAs, sign_text, HasExponent, WritesUnsigned, WritesCompact}

-- each byte is below 128
abbrev pub Below : List ℕ → Type 0
Below s = AllByRecursion (λ b. b < 128) s

pub joined : (s t : List ℕ) → Below s → Below t → Below (s ++ t)
joined [] t h k = k
joined (b ∷ s) t h k = (h.0, joined s t h.1 k)

digits : (ds : List ℕ) → AreDigits ds → Below (text_of ds)
digits [] h = tt
digits (d ∷ ds) h = (let l : d < 10 = h.0 in omega arith, digits ds h.1)

unsigned : (text : List ℕ) (x : Places) → AreDigits x.whole → AreDigits x.fraction → StandsAs text x → Below text
unsigned text x w f (inl h) = subst Below (sym h.1) (digits x.whole w)
unsigned text x w f (inr (inl h)) =
    subst Below (sym h.1) (joined _ _ (joined _ _ (digits x.whole w) (omega arith, tt)) (digits x.fraction f))
unsigned text x w f (inr (inr h)) = subst Below (sym h.2) (joined (codes ".") _ (omega arith, tt) (digits x.fraction f))

signs : (s : Sign) → Below (sign_text s)
signs sign.None = tt
signs sign.Negative = (omega arith, tt)
signs sign.Positive = (omega arith, tt)

exponent : (text : List ℕ) (e : ℕ) → HasExponent text e → Below text
exponent text e (inl h) = subst Below (sym h.0) tt
exponent text e (inr h) = subst Below (sym h.1.form) (joined (codes "c") _ (omega arith, tt) (digits h.0 h.1.digits))

ascii : (s : List ℕ) → Below s → IsAscii s
ascii [] h i = omega arith
ascii (b ∷ s) h zero = h.0
ascii (b ∷ s) h (suc i) = ascii s h.1 i

-- what writes a number is UTF-8
pub number_is_utf8 : (text : List ℕ) (x : CompactNumber) → WritesCompact text x → IsUtf8 text
number_is_utf8 text x h =
    let front = h.0 in let rest = h.1 in
    let d = h.2 in
    let u = d.1 in
    let a : Below d.0 = unsigned d.0 x.significand.absolute u.digits.whole u.digits.fraction u.form in
    let b : Below front = subst Below (sym d.2) (joined (sign_text x.significand.sign) d.0 (signs x.significand.sign) a) in
    let c : Below rest = exponent rest x.exponent h.3 in
    IsUtf8-from_ascii text (ascii text (subst Below (sym h.4) (joined front rest b c)))

-- and what writes an unsigned one
pub unsigned_is_utf8 : (text : List ℕ) (x : Places) → WritesUnsigned text x → IsUtf8 text
unsigned_is_utf8 text x h = IsUtf8-from_ascii text (ascii text (unsigned text x h.digits.whole h.digits.fraction h.form))
