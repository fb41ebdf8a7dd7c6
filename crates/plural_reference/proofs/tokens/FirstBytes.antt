-- The first byte of a text that doesn't begin with a space tells which token can come first. The
-- parser cites it where it tells a token by its bytes.
use Rattle.std.proofs.Common.{◌≡◌, ◌≢◌, ◌≤◌, ◌+◌, ◌*◌, ℕ, List, [], ◌∷◌, ◌++◌, Bool, true, false, nat_eq, cond, Option, Some, None}
use Rattle.std.proofs.Common.{refl, sym, ap, ◌∙◌, subst, ⊎_elim, drop, get_or, arith}
use Rattle.std.proofs.lemmas.Bool.Decides.{eqb_tells, leb_tells}
use Rattle.std.specs.Prelude.{nat_le, IsSomeAnd, MatchOption}
use Rattle.std.specs.Borrow.{Bor}
use Rattle.std.specs.List.{AllByRecursion}
use Rattle.std.specs.Char.{is_ascii_digit, digit_value, IsAsciiDigit}
use Rattle.plural_operands.specs.declared.operand.Operand.TheVariants.{I}
use Rattle.plural_reference.specs.declared.ast.Operator.TheVariants.{Eq, NotEq}
use Rattle.plural_reference.specs.declared.token.Token.{Token}
use Rattle.plural_reference.specs.declared.token.Token.TheVariants.{Operand, Operator, Number, Zero, Dot, DotDot, Comma, Or, And, Modulo, Junk, At, Integer, Ellipsis, Tilde}
use Rattle.plural_reference.specs.Lexer.{first, max_number}
use Rattle.plural_reference.specs.Inner.Scan.{Start, gives, opens, Scan, between, in_keyword, in_number, after_i}
use Rattle.plural_reference.specs.Inner.Scan.{after_point, piece_starts, look_up, start_move, begin_piece, number_token}
use Rattle.plural_reference.specs.Parser.{operator_fault, value_fault}
use Rattle.plural_reference.specs.Inner.Scan.{then_begin, ScanMove, tokens_from, tokens_of}
use Rattle.plural_reference.specs.Inner.Front.{BeginsAtToken, IsBehind}
use Rattle.plural_reference.specs.declared.error.ParseError.TheVariants.{ExpectedOperator, ExpectedValue}
use Rattle.plural_reference.proofs.tokens.ScanComplete.{no_eq}
use Rattle.plural_reference.proofs.tokens.Alone.{point_alone}

-- the token may begin with the byte; of those that are left out nothing is said
abbrev MayBegin : Token → ℕ → Type 0
MayBegin (Number n) b = (49 ≤ b) × (b ≤ 57)
MayBegin Zero b = b ≡ 48
MayBegin Dot b = b ≡ 46
MayBegin DotDot b = b ≡ 46
MayBegin Comma b = b ≡ 44
MayBegin Or b = b ≡ 111
MayBegin And b = b ≡ 97
MayBegin Modulo b = b ≡ 37
MayBegin At b = b ≡ 64
MayBegin Ellipsis b = b ≡ 0xe2
MayBegin Tilde b = b ≡ 126
MayBegin (Operator Eq) b = b ≡ 61
MayBegin (Operator NotEq) b = b ≡ 33
MayBegin _ b = Unit {0}

-- there is a first token, and it may begin with the byte
abbrev BeginsBy : List Token → ℕ → Type 0
BeginsBy ts b = IsSomeAnd (first ts) (λ t. MayBegin t b)

-- so may that of a move and of the bytes behind it
abbrev MovesBy : ScanMove → List ℕ → ℕ → Type 0
MovesBy m bs b = BeginsBy (m.0 ++ tokens_from m.1 bs) b

-- a piece that the byte opened
abbrev OpenedBy : Scan → ℕ → Type 0
OpenedBy between b = ⊥
OpenedBy (in_keyword k ks t) b = MayBegin t b
OpenedBy (in_number n) b = (49 ≤ b) × (b ≤ 57)
OpenedBy after_i b = Unit {0}
OpenedBy after_point b = b ≡ 46

-- what a test chooses
moves-cond : (test : Bool) (m n : ScanMove) (bs : List ℕ) (b : ℕ) → MovesBy m bs b → MovesBy n bs b → MovesBy (cond test m n) bs b
moves-cond true m n bs b h i = h
moves-cond false m n bs b h i = i

-- a number or Junk
number_begins : (test : Bool) (n b : ℕ) → (49 ≤ b) × (b ≤ 57) → MayBegin (cond test (Number n) Junk) b
number_begins true n b h = h
number_begins false n b h = tt

-- the token of an open piece
opened_begins : (s : Scan) (bs : List ℕ) (b : ℕ) → OpenedBy s b → BeginsBy (tokens_from s bs) b
unfolding tokens_from
opened_begins between bs b h = absurd h
opened_begins (in_keyword k ks t) [] b h = tt
opened_begins (in_keyword k [] t) (c ∷ cs) b h = moves-cond (nat_eq c k) (t ∷ [], between) (Junk ∷ [], between) cs b h tt
opened_begins (in_keyword k (l ∷ ls) t) (c ∷ cs) b h =
    moves-cond (nat_eq c k) ([], in_keyword l ls t) (Junk ∷ [], between) cs b (opened_begins (in_keyword l ls t) cs b h) tt
opened_begins (in_number n) [] b h = number_begins (nat_le n max_number) n b h
opened_begins (in_number n) (c ∷ cs) b h =
    moves-cond (is_ascii_digit c) ([], in_number (n * 10 + digit_value c)) (then_begin (number_token n) (begin_piece c)) cs b
    (opened_begins (in_number (n * 10 + digit_value c)) cs b h) (number_begins (nat_le n max_number) n b h)
opened_begins after_i [] b h = tt
opened_begins after_i (c ∷ cs) b h =
    moves-cond (nat_eq c 110) ([], in_keyword 116 (101 ∷ 103 ∷ 101 ∷ 114 ∷ []) Integer) (then_begin (Operand I) (begin_piece c)) cs b
    (opened_begins (in_keyword 116 (101 ∷ 103 ∷ 101 ∷ 114 ∷ []) Integer) cs b tt) tt
opened_begins after_point [] b h = h
opened_begins after_point (c ∷ cs) b h =
    moves-cond (nat_eq c 46) (DotDot ∷ [], between) (then_begin Dot (begin_piece c)) cs b h h

-- a row of the table of first bytes
abbrev RowFits : ℕ × Start → Type 0
RowFits (b, gives t) = MayBegin t b
RowFits (b, opens s) = OpenedBy s b

row_begins : (b : ℕ) (s : Start) (bs : List ℕ) → RowFits (b, s) → MovesBy (start_move s) bs b
row_begins b (gives t) bs h = h
row_begins b (opens s) bs h = opened_begins s bs b h

-- every row fits
rows_fit : AllByRecursion RowFits piece_starts
rows_fit =
    let from_zero : AllByRecursion RowFits (drop 9 piece_starts) =
    (refl, (refl, (refl, (refl, (refl, (refl, (refl, (refl, (refl, (tt, (refl, tt))))))))))) in
    (tt, (tt, (tt, (tt, (tt, (tt, (tt, (tt, (refl, from_zero)))))))))

-- a byte that is looked up
looked_up : (b : ℕ) (ss : List (ℕ × Start)) (bs : List ℕ) → AllByRecursion RowFits ss → MovesBy (look_up b ss) bs b
looked_up b [] bs h = tt
looked_up b ((k, s) ∷ ss) bs h =
    ⊎_elim
    (λ yes. rw yes.0 (subst (λ x. MovesBy (start_move s) bs x) (sym yes.1) (row_begins k s bs h.0)))
    (λ no. rw no.0 (looked_up b ss bs h.1))
    (eqb_tells b k)

-- any byte but a space
any_begins : (b : ℕ) (bs : List ℕ) → b ≢ 32 → MovesBy (begin_piece b) bs b
any_begins b bs other =
    rw (no_eq b 32 other)
    (⊎_elim
    (λ low. rw low.0
    (⊎_elim
    (λ high. rw high.0 (opened_begins (in_number (0 * 10 + digit_value b)) bs b (low.1, high.1)))
    (λ no. rw no.0 (looked_up b piece_starts bs rows_fit))
    (leb_tells b 57)))
    (λ no. rw no.0 (looked_up b piece_starts bs rows_fit))
    (leb_tells 49 b))

-- the first token may begin with the first byte
text_begins : (b : ℕ) (bs : List ℕ) (t : Token) → b ≢ 32 → first (tokens_of (b ∷ bs)) ≡ Some t → MayBegin t b
unfolding tokens_from
text_begins b bs t other e = subst (λ o. IsSomeAnd o (λ u. MayBegin u b)) e (any_begins b bs other)

-- a text has no first token that begins with another byte
other_first : (text : List ℕ) (t : Token) (k : ℕ) → ((b : ℕ) → MayBegin t b → b ≡ k) → BeginsAtToken text → first text ≢ Some k
    → first (tokens_of text) ≢ Some t
unfolding tokens_from
other_first [] t k h space other e = cc
other_first (b ∷ bs) t k h space other e = other (ap Some (h b (text_begins b bs t (λ q. space (ap Some q)) e)))

-- a text without tokens that doesn't begin with a space is empty
pub no_tokens_left : (text : List ℕ) → BeginsAtToken text → tokens_of text ≡ [] → text ≡ []
unfolding tokens_from
no_tokens_left [] space e = refl
no_tokens_left (b ∷ bs) space e =
    absurd (subst (λ ts. BeginsBy ts b) e (any_begins b bs (λ q. space (ap Some q))))

-- the empty text has no tokens
pub no_bytes_left : (text : List ℕ) → text ≡ [] → tokens_of text ≡ []
unfolding tokens_from
no_bytes_left text e = rw e refl

-- ---- tokens of one byte

-- a token that is one byte, which begins no other, is at the front of the text just if the byte is
pub behind_byte : (t : Token) (k : ℕ) (text : List ℕ) (rest : Option (Bor (List ℕ)))
    → ((b : ℕ) → MayBegin t b → b ≡ k) → ((after : List ℕ) → tokens_of (k ∷ after) ≡ t ∷ tokens_of after) → first text ≢ Some 32
    → MatchOption rest (first text ≢ Some k) (λ after. text ≡ k ∷ after.now) → IsBehind text t rest
behind_byte t k text None h g space n = other_first text t k h space n
behind_byte t k text (Some after) h g space e = ap tokens_of e ∙ g after.now

-- ---- tokens of several bytes

-- a byte that a keyword doesn't go on with makes Junk
broken : (k : ℕ) (ks : List ℕ) (t : Token) (rest : List ℕ) → first rest ≢ Some k → first (tokens_from (in_keyword k ks t) rest) ≡ Some Junk
unfolding tokens_from
broken k ks t [] other = refl
broken k ks t (c ∷ cs) other = rw (no_eq c k (λ e. other (ap Some e))) refl

-- `and`
pub no_and : (text : List ℕ) → BeginsAtToken text → first text ≢ Some 97 → first (tokens_of text) ≢ Some And
no_and text space other = other_first text And 97 (λ b h. h) space other

pub no_and_by_second : (text rest : List ℕ) → text ≡ 97 ∷ rest → first rest ≢ Some 110 → first (tokens_of text) ≢ Some And
unfolding tokens_from
no_and_by_second text rest e other f =
    let junk : first (tokens_of text) ≡ Some Junk = rw e (broken 110 (100 ∷ []) And rest other) in cc

pub and_by_third : (text rest last : List ℕ) (after : Option (Bor (List ℕ))) → text ≡ 97 ∷ rest → rest ≡ 110 ∷ last
    → MatchOption after (first last ≢ Some 100) (λ r. last ≡ 100 ∷ r.now) → IsBehind text And after
unfolding tokens_from
and_by_third text rest last None e f other = λ g.
    let junk : first (tokens_of text) ≡ Some Junk = rw (e, f) (broken 100 [] And last other) in cc
and_by_third text rest last (Some after) e f g = rw (e, f, g) refl

-- `or`
pub no_or : (text : List ℕ) → BeginsAtToken text → first text ≢ Some 111 → first (tokens_of text) ≢ Some Or
no_or text space other = other_first text Or 111 (λ b h. h) space other

pub or_by_second : (text rest : List ℕ) (after : Option (Bor (List ℕ))) → text ≡ 111 ∷ rest
    → MatchOption after (first rest ≢ Some 114) (λ r. rest ≡ 114 ∷ r.now) → IsBehind text Or after
unfolding tokens_from
or_by_second text rest None e other = λ g. let junk : first (tokens_of text) ≡ Some Junk = rw e (broken 114 [] Or rest other) in cc
or_by_second text rest (Some after) e f = rw (e, f) refl

-- `…`
pub no_ellipsis : (text : List ℕ) → BeginsAtToken text → first text ≢ Some 0xe2 → first (tokens_of text) ≢ Some Ellipsis
no_ellipsis text space other = other_first text Ellipsis 0xe2 (λ b h. h) space other

pub no_ellipsis_by_second : (text rest : List ℕ) → text ≡ 0xe2 ∷ rest → first rest ≢ Some 0x80 → first (tokens_of text) ≢ Some Ellipsis
unfolding tokens_from
no_ellipsis_by_second text rest e other f =
    let junk : first (tokens_of text) ≡ Some Junk = rw e (broken 0x80 (0xa6 ∷ []) Ellipsis rest other) in cc

pub ellipsis_by_third : (text rest last : List ℕ) (after : Option (Bor (List ℕ))) → text ≡ 0xe2 ∷ rest → rest ≡ 0x80 ∷ last
    → MatchOption after (first last ≢ Some 0xa6) (λ r. last ≡ 0xa6 ∷ r.now) → IsBehind text Ellipsis after
unfolding tokens_from
ellipsis_by_third text rest last None e f other = λ g.
    let junk : first (tokens_of text) ≡ Some Junk = rw (e, f) (broken 0xa6 [] Ellipsis last other) in cc
ellipsis_by_third text rest last (Some after) e f g = rw (e, f, g) refl

-- `..`
pub no_dots : (text : List ℕ) → BeginsAtToken text → first text ≢ Some 46 → first (tokens_of text) ≢ Some DotDot
no_dots text space other = other_first text DotDot 46 (λ b h. h) space other

pub dots_by_second : (text rest : List ℕ) (after : Option (Bor (List ℕ))) → text ≡ 46 ∷ rest
    → MatchOption after (first rest ≢ Some 46) (λ r. rest ≡ 46 ∷ r.now) → IsBehind text DotDot after
unfolding tokens_from
dots_by_second text rest None e other = λ f.
    let point : tokens_of text ≡ Dot ∷ tokens_of rest = ap tokens_of e ∙ point_alone 46 rest refl other in
    let one : first (tokens_of text) ≡ Some Dot = ap first point in cc
dots_by_second text rest (Some after) e f = rw (e, f) refl

-- what the functions that strip these bytes may be left to show
pub ruleset and_bytes = (no_and, no_and_by_second)

pub ruleset ellipsis_bytes = (no_ellipsis, no_ellipsis_by_second)

-- ---- operators

-- a token that begins with neither byte of an operator is none
no_operator_of : (o : Option Token) (b : ℕ) → IsSomeAnd o (λ t. MayBegin t b) → b ≢ 61 → b ≢ 33
    → operator_fault o ≡ Some ExpectedOperator
no_operator_of None b h e n = refl
no_operator_of (Some (Operator Eq)) b h e n = absurd (e h)
no_operator_of (Some (Operator NotEq)) b h e n = absurd (n h)
no_operator_of (Some _) b h e n = refl

-- `=` and `!=`
pub no_operator : (text : List ℕ) → BeginsAtToken text → first text ≢ Some 61 → first text ≢ Some 33
    → operator_fault (first (tokens_of text)) ≡ Some ExpectedOperator
unfolding tokens_from
no_operator [] space e n = refl
no_operator (b ∷ bs) space e n =
    no_operator_of _ b (any_begins b bs (λ q. space (ap Some q))) (λ q. e (ap Some q)) (λ q. n (ap Some q))

pub no_operator_by_second : (text rest : List ℕ) → text ≡ 33 ∷ rest → first rest ≢ Some 61
    → operator_fault (first (tokens_of text)) ≡ Some ExpectedOperator
unfolding tokens_from
no_operator_by_second text rest e other = rw (e, broken 61 [] (Operator NotEq) rest other) refl

pub is_equal : (text after : List ℕ) → text ≡ 61 ∷ after → tokens_of text ≡ Operator Eq ∷ tokens_of after
unfolding tokens_from
is_equal text after e = rw e refl

pub is_not_equal : (text rest after : List ℕ) → text ≡ 33 ∷ rest → rest ≡ 61 ∷ after → tokens_of text ≡ Operator NotEq ∷ tokens_of after
unfolding tokens_from
is_not_equal text rest after e f = rw (e, f) refl

-- what a reader of operators may be left to show
pub ruleset operator_bytes = (no_operator, no_operator_by_second, is_equal)

-- ---- values

-- a token that may begin with a byte that is no digit is no value
no_value_of : (o : Option Token) (b : ℕ) → IsSomeAnd o (λ t. MayBegin t b) → ¬ (IsAsciiDigit b) → value_fault o ≡ Some ExpectedValue
no_value_of None b h n = refl
no_value_of (Some (Number m)) b h n = absurd (n (omega (arith, h.0), h.1))
no_value_of (Some Zero) b h n = absurd (n (omega (arith, h), omega (arith, h)))
no_value_of (Some _) b h n = refl

-- a text whose first byte is no digit begins with no value
pub no_value : (text : List ℕ) → BeginsAtToken text → ¬ (IsAsciiDigit (get_or text 0 0))
    → value_fault (first (tokens_of text)) ≡ Some ExpectedValue
unfolding tokens_from
no_value [] space n = refl
no_value (b ∷ bs) space n = no_value_of _ b (any_begins b bs (λ q. space (ap Some q))) n
