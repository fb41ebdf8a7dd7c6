-- How a text is cut into pieces, and the tokens of the pieces (UTS 35 Part 3, Plural Rules Syntax;
-- what isn't a piece of a rule is one token Junk, so that every text has tokens).
use Rattle.std.specs.Prelude.{List, [], ◌∷◌, Option, Some, None, ◌≡◌, ◌≢◌, ◌≤◌, ◌<◌, ℕ, ◌++◌, IfSome, All, Contains, codes}
use Rattle.std.specs.List.{filter_map}
use Rattle.std.specs.Char.{IsAsciiDigit}
use Rattle.std.specs.Str.Parse.{digits_value}
use Rattle.plural_operands.specs.declared.operand.Operand.TheVariants.{N, I, F, T, V, W, C}
use Rattle.plural_reference.specs.declared.ast.Operator.TheVariants.{Eq, NotEq}
use Rattle.plural_reference.specs.declared.error.ParseError.{ParseError}
use Rattle.plural_reference.specs.declared.token.Token.{Token}
use Rattle.plural_reference.specs.declared.token.Token.TheVariants.{Operand, Operator, Number, Zero, Dot, DotDot, Comma, Or, And}
use Rattle.plural_reference.specs.declared.token.Token.TheVariants.{Modulo, Junk, At, Decimal, Integer, Ellipsis, Tilde, E}

-- ---- The ends of a list

-- the first of a list
abbrev pub first : {A : Type 0} → List A → Option A
first [] = None
first (x ∷ xs) = Some x

-- the last of a list
abbrev pub last : {A : Type 0} → List A → Option A
last [] = None
last (x ∷ []) = Some x
last (x ∷ y ∷ ys) = last (y ∷ ys)

-- ---- Pieces and tokens

-- a piece that is always spelled in one way, and its token
abbrev pub Word : Type 0
Word = List ℕ × Token

-- `…` in UTF-8
abbrev pub ellipsis : List ℕ
ellipsis = 0xe2 ∷ 0x80 ∷ 0xa6 ∷ []

-- the pieces of one byte or two, which are never broken off
abbrev pub marks : List Word
marks =
    (codes "n", Operand N) ∷ (codes "f", Operand F) ∷ (codes "t", Operand T) ∷ (codes "v", Operand V) ∷ (codes "w", Operand W)
    ∷ (codes "c", Operand C) ∷ (codes "i", Operand I) ∷ (codes "e", E) ∷ (codes "=", Operator Eq) ∷ (codes "0", Zero) ∷ (codes ".", Dot)
    ∷ (codes "..", DotDot) ∷ (codes ",", Comma) ∷ (codes "%", Modulo) ∷ (codes "@", At) ∷ (codes "~", Tilde) ∷ []

-- the pieces that a wrong byte or the end of the text can break off
abbrev pub keywords : List Word
keywords =
    (codes "and", And) ∷ (codes "or", Or) ∷ (codes "!=", Operator NotEq) ∷ (codes "decimal", Decimal) ∷ (ellipsis, Ellipsis)
    ∷ (codes "integer", Integer) ∷ []

-- what may not follow a mark: `i` before `n`, and `.` before `.`
abbrev pub MayFollow : List ℕ → List ℕ → Type 0
MayFollow mark rest = (mark ≡ codes "i" → first rest ≢ first (codes "n")) × (mark ≡ codes "." → first rest ≢ first (codes "."))

-- the byte of a space
abbrev pub blank : ℕ
blank = 32

-- the byte of `0`
abbrev pub digit_0 : ℕ
digit_0 = 48

-- a number's digits: the first isn't 0, and no other digit follows them
pub record IsDigitRun (digits rest : List ℕ) : Type 0 where
  pub begins : IfSome (first digits) (λ d. d ≢ digit_0)
  pub nonempty : digits ≢ []
  pub all_digits : All IsAsciiDigit digits
  pub whole : IfSome (first rest) (λ d. ¬ (IsAsciiDigit d))

-- the largest number that a token holds
abbrev pub max_number : ℕ
max_number = 4294967295

-- a begun keyword: `integer` is begun by `in`, the others by their first byte
pub record IsBegun (begun : List ℕ) (next : ℕ) : Type 0 where
  pub word : Word
  pub more : List ℕ
  pub is_keyword : Contains keywords word
  pub spelling : word.0 ≡ begun ++ next ∷ more
  pub nonempty : begun ≢ []
  pub not_i : begun ≢ codes "i"

-- a byte that begins no piece
abbrev pub BeginsNone : ℕ → Type 0
BeginsNone b = (b ≢ blank) × (¬ (IsAsciiDigit b)) × All (λ word. first word.0 ≢ Some b) (marks ++ keywords)

-- a piece of a text, the rest that follows it, and the token that it gives: none for a space
pub data IsPiece (piece rest : List ℕ) (token : Option Token) : Type 0 where
  space : piece ≡ blank ∷ [] → token ≡ None → IsPiece piece rest token
  mark : (t : Token) → Contains marks (piece, t) → MayFollow piece rest → token ≡ Some t → IsPiece piece rest token
  keyword : (t : Token) → Contains keywords (piece, t) → token ≡ Some t → IsPiece piece rest token
  number : IsDigitRun piece rest → digits_value 10 piece ≤ max_number → token ≡ Some (Number (digits_value 10 piece)) → IsPiece piece rest token
  -- the four kinds of Junk
  unknown : (b : ℕ) → piece ≡ b ∷ [] → BeginsNone b → token ≡ Some Junk → IsPiece piece rest token
  too_large : IsDigitRun piece rest → max_number < digits_value 10 piece → token ≡ Some Junk → IsPiece piece rest token
  broken : (begun : List ℕ) (next b : ℕ) → piece ≡ begun ++ b ∷ [] → IsBegun begun next → b ≢ next → token ≡ Some Junk → IsPiece piece rest token
  cut_off : (next : ℕ) → IsBegun piece next → rest ≡ [] → token ≡ Some Junk → IsPiece piece rest token

-- a piece, and the token that it gives
abbrev pub Piece : Type 0
Piece = List ℕ × Option Token

-- the text is cut into these pieces
abbrev pub IsCut : List ℕ → List Piece → Type 0
IsCut text [] = text ≡ []
IsCut text (p ∷ ps) = (rest : List ℕ) × (text ≡ p.0 ++ rest) × IsPiece p.0 rest p.1 × IsCut rest ps

-- these are the tokens of the text
abbrev pub AreTokensOf : List ℕ → List Token → Type 0
AreTokensOf text tokens = (pieces : List Piece) × IsCut text pieces × (tokens ≡ filter_map (λ p. p.1) pieces)

-- ---- What a text is read as

-- the text is read as x: x is read from its tokens
abbrev pub TextReads : {A : Type 0} → (List Token → A → Type 0) → List ℕ → A → Type 0
TextReads Read text x = (tokens : List Token) × AreTokensOf text tokens × Read tokens x

-- the text has this fault: its tokens have it
abbrev pub TextFaulty : (List Token → ParseError → Type 0) → List ℕ → ParseError → Type 0
TextFaulty Fault text kind = (tokens : List Token) × AreTokensOf text tokens × Fault tokens kind
