-- Not a definition of the subject: the bytes behind the first piece of a text, found byte by byte,
-- for the private contracts of the lexer. That no other piece comes first is proved.
use Rattle.std.specs.Prelude.{ℕ, ◌+◌, ◌*◌, ◌≡◌, ◌≢◌, List, [], ◌∷◌, ◌++◌, Bool, true, Option, Some, is_some, nat_eq, cond}
use Rattle.std.specs.Char.{is_ascii_digit, digit_value}
use Rattle.plural_reference.specs.declared.token.Token.{Token}
use Rattle.plural_reference.specs.declared.token.Token.TheVariants.{Integer}
use Rattle.plural_reference.specs.Lexer.{IsPiece, blank, first}
use Rattle.plural_reference.specs.Inner.Scan.{Scan, between, in_keyword, in_number, after_i, after_point, begin_piece, keyword_move}

-- what a byte is to the open piece: the first after it, its last, or one in it
pub data Bite : Type 0 where
  stops : Bite
  ends : Bite
  goes : Scan → Bite

-- a byte ends the piece if the state after it is between two pieces; otherwise it belongs to the
-- piece, with more to come
abbrev pub taken : Scan → Bite
taken between = ends
taken (in_keyword k ks t) = goes (in_keyword k ks t)
taken (in_number n) = goes (in_number n)
taken after_i = goes after_i
taken after_point = goes after_point

-- what a byte is to the piece that is open in this state
abbrev pub bite : Scan → ℕ → Bite
bite between b = taken (begin_piece b).1
bite (in_keyword k ks t) b = cond (nat_eq b k) (taken (keyword_move ks t).1) ends
bite (in_number n) b = cond (is_ascii_digit b) (goes (in_number (n * 10 + digit_value b))) stops
bite after_i b = cond (nat_eq b 110) (goes (in_keyword 116 (101 ∷ 103 ∷ 101 ∷ 114 ∷ []) Integer)) stops
bite after_point b = cond (nat_eq b 46) ends stops

-- the bytes behind the piece, from this byte on
abbrev pub left_by : Bite → ℕ → List ℕ → (Scan → List ℕ) → List ℕ
left_by stops b bs more = b ∷ bs
left_by ends b bs more = bs
left_by (goes s) b bs more = more s

-- the bytes behind the open piece
unfoldable pub rest_from : Scan → List ℕ → List ℕ
rest_from s [] = []
rest_from s (b ∷ bs) = left_by (bite s b) b bs (λ next. rest_from next bs)

-- the bytes behind the first piece of a text
abbrev pub behind_first : List ℕ → List ℕ
behind_first text = rest_from between text

-- the bytes behind a keyword of which these bytes are still expected
abbrev pub behind_keyword : List ℕ → Token → List ℕ → List ℕ
behind_keyword [] t rest = rest
behind_keyword (k ∷ ks) t rest = rest_from (in_keyword k ks t) rest

-- the text is a piece and then these bytes; whether the piece is a token
pub record HasFirst (text : List ℕ) (is_token : Bool) (after : List ℕ) : Type 0 where
  pub piece : List ℕ
  pub token : Option Token
  pub spelled : text ≡ piece ++ after
  pub is_piece : IsPiece piece after token
  pub told : is_token ≡ is_some token
  pub no_space : is_token ≡ true → first text ≢ Some blank
