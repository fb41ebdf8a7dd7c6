-- Not a definition of the subject: how a text of at most 18 digits on each side of its point is
-- read, for private contracts. A text is a list of bytes.
use Rattle.std.specs.Prelude.{◌≡◌, ◌≢◌, ◌⊎◌, ℕ, ◌-◌, ◌*◌, ◌%◌, ◌^◌, ◌<◌, ◌≤◌, List, ◌++◌, length}
use Rattle.fixed_decimal.specs.Digits.{AreDigits, value_of, text_of}
use Rattle.fixed_decimal.specs.Places.{Places, IsWritten}
use Rattle.fixed_decimal.specs.Written.{WritesUnsigned, HasExponent, sign_text}
use Rattle.fixed_decimal.specs.declared.sign.Sign.{Sign}
use Rattle.plural_operands.specs.Operands.{Operands, AreKept, kept_places}

-- the text is digits, which write the number
pub record AreDigitsOf (text : List ℕ) (number : ℕ) : Type 0 where
  pub ds : List ℕ
  pub digits : AreDigits ds
  pub spelled : text ≡ text_of ds
  pub value : number ≡ value_of ds

-- the text is digits
abbrev pub AreDigitsAlone : List ℕ → Type 0
AreDigitsAlone text = (ds : List ℕ) × AreDigits ds × (text ≡ text_of ds)

-- at most 18 digits are at the front, which write the number
pub record HasFront (text : List ℕ) (number : ℕ) (rest : List ℕ) : Type 0 where
  pub front : List ℕ
  pub digits : AreDigitsOf front number
  pub few : length front ≤ kept_places
  pub spelled : text ≡ front ++ rest

-- so many digits write f; without zeros at their end they are w digits, which write t
pub record IsTrimmedAt (places f w t : ℕ) : Type 0 where
  pub within : w ≤ places
  pub scaled : f ≡ t * 10 ^ (places - w)
  pub last : (w ≡ 0) ⊎ (t % 10 ≢ 0)

-- at most 18 digits are at the front, of which the fraction's operands are
pub record HasFractionFront (text : List ℕ) (o : Operands) (rest : List ℕ) : Type 0 where
  pub front : List ℕ
  pub digits : AreDigitsOf front o.f
  pub few : length front ≤ kept_places
  pub shown : o.v ≡ length front
  pub trimmed : IsTrimmedAt o.v o.f o.w o.t
  pub spelled : text ≡ front ++ rest

-- the operands are those of a number of at most 18 places on each side, so many of them integer
-- places, without an exponent
pub record ArePlain (x : Places) (whole : ℕ) (o : Operands) : Type 0 where
  pub written : IsWritten x
  pub places : length x.whole ≡ whole
  pub few : whole ≤ kept_places
  pub shown : o.v ≡ length x.fraction
  pub few_shown : o.v ≤ kept_places
  pub i : o.i ≡ value_of x.whole
  pub f : o.f ≡ value_of x.fraction
  pub trimmed : IsTrimmedAt o.v o.f o.w o.t
  pub c : o.c ≡ 0

-- such a number is at the front
pub record HasPlain (text : List ℕ) (o : Operands) (whole : ℕ) (rest : List ℕ) : Type 0 where
  pub x : Places
  pub plain : ArePlain x whole o
  pub front : List ℕ
  pub written : WritesUnsigned front x
  pub spelled : text ≡ front ++ rest

-- the text is one or two digits, which write the exponent
pub record IsShortExponent (text : List ℕ) (exponent : ℕ) : Type 0 where
  pub digits : AreDigitsOf text exponent
  pub some : 1 ≤ length text
  pub few : length text ≤ 2

-- the text writes a number of at most 18 places on each side, and an exponent of at most two digits
-- or none, of which the operands are
pub record WritesShort (text : List ℕ) (o : Operands) : Type 0 where
  pub x : Places
  pub front : List ℕ
  pub written : WritesUnsigned front x
  pub whole : length x.whole ≤ kept_places
  pub fraction : length x.fraction ≤ kept_places
  pub exponent : ℕ
  pub behind : List ℕ
  pub has_exponent : HasExponent behind exponent
  pub small : exponent < 100
  pub spelled : text ≡ front ++ behind
  pub kept : AreKept x exponent o

-- ... after a sign or none
pub record WritesShortSigned (text : List ℕ) (o : Operands) : Type 0 where
  pub sign : Sign
  pub unsigned : List ℕ
  pub short : WritesShort unsigned o
  pub spelled : text ≡ sign_text sign ++ unsigned
