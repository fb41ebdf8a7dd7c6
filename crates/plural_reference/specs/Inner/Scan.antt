-- Not a definition of the subject: the tokens of a text, byte by byte, for the view of the lexer
-- and its private contracts. That these are the tokens of the text's pieces is proved.
use Rattle.std.specs.Prelude.{ℕ, ◌+◌, ◌*◌, List, [], ◌∷◌, ◌++◌, nat_eq, cond, nat_le, codes}
use Rattle.std.specs.Str.{byte}
use Rattle.std.specs.Char.{is_ascii_digit, digit_value}
use Rattle.plural_operands.specs.declared.operand.Operand.TheVariants.{N, I, F, T, V, W, C}
use Rattle.plural_reference.specs.declared.ast.Operator.TheVariants.{Eq, NotEq}
use Rattle.plural_reference.specs.declared.token.Token.{Token}
use Rattle.plural_reference.specs.declared.token.Token.TheVariants.{Operand, Operator, Number, Zero, Dot, DotDot, Comma, Or, And}
use Rattle.plural_reference.specs.declared.token.Token.TheVariants.{Modulo, Junk, At, Decimal, Integer, Ellipsis, Tilde, E}
use Rattle.plural_reference.specs.Lexer.{blank, max_number}

-- which part of a piece the bytes so far are
pub data Scan : Type 0 where
  between : Scan
  in_keyword : ℕ → List ℕ → Token → Scan
  in_number : ℕ → Scan
  after_i : Scan
  after_point : Scan

-- what a byte does: it ends a piece of one byte, or begins a longer one
pub data Start : Type 0 where
  gives : Token → Start
  opens : Scan → Start

-- a keyword of which these bytes are expected
abbrev pub awaits : List ℕ → Token → Scan
awaits [] t = between
awaits (k ∷ ks) t = in_keyword k ks t

-- the first bytes of all pieces except spaces and numbers
abbrev pub piece_starts : List (ℕ × Start)
piece_starts =
    (byte "n", gives (Operand N)) ∷ (byte "f", gives (Operand F)) ∷ (byte "t", gives (Operand T)) ∷ (byte "v", gives (Operand V))
    ∷ (byte "w", gives (Operand W)) ∷ (byte "c", gives (Operand C)) ∷ (byte "i", opens after_i) ∷ (byte "e", gives E)
    ∷ (byte "=", gives (Operator Eq)) ∷ (byte "0", gives Zero) ∷ (byte ".", opens after_point) ∷ (byte ",", gives Comma)
    ∷ (byte "%", gives Modulo) ∷ (byte "@", gives At) ∷ (byte "~", gives Tilde) ∷ (byte "a", opens (awaits (codes "nd") And))
    ∷ (byte "o", opens (awaits (codes "r") Or)) ∷ (byte "!", opens (awaits (codes "=") (Operator NotEq)))
    ∷ (byte "d", opens (awaits (codes "ecimal") Decimal)) ∷ (0xe2, opens (awaits (0x80 ∷ 0xa6 ∷ []) Ellipsis)) ∷ []

-- the tokens that a byte ends, and where it leads
abbrev pub ScanMove : Type 0
ScanMove = List Token × Scan

-- what the first byte of a piece does
abbrev pub start_move : Start → ScanMove
start_move (gives t) = (t ∷ [], between)
start_move (opens s) = ([], s)

-- what a byte does by a table: one that isn't in it is Junk
abbrev pub look_up : ℕ → List (ℕ × Start) → ScanMove
look_up b [] = (Junk ∷ [], between)
look_up b (s ∷ ss) = cond (nat_eq b s.0) (start_move s.1) (look_up b ss)

-- a byte that begins a piece
abbrev pub begin_piece : ℕ → ScanMove
begin_piece b =
    cond (nat_eq b blank) ([], between)
    (cond (nat_le (byte "1") b) (cond (nat_le b (byte "9")) ([], in_number (0 * 10 + digit_value b)) (look_up b piece_starts))
    (look_up b piece_starts))

-- the token of a whole number
abbrev pub number_token : ℕ → Token
number_token n = cond (nat_le n max_number) (Number n) Junk

-- a byte of a keyword that fits
abbrev pub keyword_move : List ℕ → Token → ScanMove
keyword_move [] t = (t ∷ [], between)
keyword_move (k ∷ ks) t = ([], in_keyword k ks t)

-- the token first, then what the byte begins
abbrev pub then_begin : Token → ScanMove → ScanMove
then_begin t m = (t ∷ m.0, m.1)

-- what a byte does
abbrev pub scan_step : Scan → ℕ → ScanMove
scan_step between b = begin_piece b
scan_step (in_keyword k ks t) b = cond (nat_eq b k) (keyword_move ks t) (Junk ∷ [], between)
scan_step (in_number n) b = cond (is_ascii_digit b) ([], in_number (n * 10 + digit_value b)) (then_begin (number_token n) (begin_piece b))
scan_step after_i b = cond (nat_eq b (byte "n")) ([], awaits (codes "teger") Integer) (then_begin (Operand I) (begin_piece b))
scan_step after_point b = cond (nat_eq b (byte ".")) (DotDot ∷ [], between) (then_begin Dot (begin_piece b))

-- what the end of the text does
abbrev pub scan_end : Scan → List Token
scan_end between = []
scan_end (in_keyword k ks t) = Junk ∷ []
scan_end (in_number n) = number_token n ∷ []
scan_end after_i = Operand I ∷ []
scan_end after_point = Dot ∷ []

-- the tokens of the remaining bytes
unfoldable pub tokens_from : Scan → List ℕ → List Token
tokens_from s [] = scan_end s
tokens_from s (b ∷ bs) = let m = scan_step s b in m.0 ++ tokens_from m.1 bs

-- the tokens of a text
abbrev pub tokens_of : List ℕ → List Token
tokens_of text = tokens_from between text

-- the tokens while these bytes of a keyword are still expected
abbrev pub keyword_tokens : List ℕ → Token → List ℕ → List Token
keyword_tokens [] t rest = t ∷ tokens_of rest
keyword_tokens (k ∷ ks) t rest = tokens_from (in_keyword k ks t) rest
