-- A text has at most as many tokens as bytes: a step of the scan gives no more tokens than it has
-- read bytes, where an open piece counts as one. The contract of the lexer's constructor cites it,
-- from which a caller knows how much memory is enough.
use Rattle.std.proofs.Common.{◌≤◌, ◌+◌, ◌*◌, ℕ, Bool, true, false, cond, List, [], ◌∷◌, length, nat_eq, arith, length-append}
use Rattle.std.specs.Prelude.{nat_le}
use Rattle.std.specs.Char.{is_ascii_digit, digit_value}
use Rattle.plural_operands.specs.declared.operand.Operand.TheVariants.{I}
use Rattle.plural_reference.specs.declared.token.Token.{Token}
use Rattle.plural_reference.specs.declared.token.Token.TheVariants.{Operand, Dot, DotDot, Junk}
use Rattle.plural_reference.specs.Inner.Scan.{Start, gives, opens, Scan, between, in_keyword, in_number, after_i}
use Rattle.plural_reference.specs.Inner.Scan.{after_point, piece_starts, look_up, start_move, begin_piece, number_token}
use Rattle.plural_reference.specs.Inner.Scan.{keyword_move, then_begin, scan_step, ScanMove, tokens_from, tokens_of}

-- an open piece gives at most one token
abbrev pending : Scan → ℕ
pending between = 0
pending _ = 1

-- the tokens that a move gives, and the one that its open piece will give
abbrev size : ScanMove → ℕ
size m = length m.0 + pending m.1

-- an open piece gives at most one token
one_at_most : (s : Scan) → pending s ≤ 1
one_at_most between = omega arith
one_at_most (in_keyword k ks t) = omega arith
one_at_most (in_number n) = omega arith
one_at_most after_i = omega arith
one_at_most after_point = omega arith

-- what a test chooses is as small as both of its choices
size-cond : (test : Bool) (m n : ScanMove) (k : ℕ) → size m ≤ k → size n ≤ k → size (cond test m n) ≤ k
size-cond true m n k h i = h
size-cond false m n k h i = i

-- the first byte of a piece gives or opens one token at most
size_start : (s : Start) → size (start_move s) ≤ 1
size_start (gives t) = omega arith
size_start (opens s) = omega (arith, one_at_most s)

-- so does a byte that is looked up
size_look_up : (b : ℕ) (ss : List (ℕ × Start)) → size (look_up b ss) ≤ 1
size_look_up b [] = omega arith
size_look_up b (s ∷ ss) = size-cond (nat_eq b s.0) (start_move s.1) (look_up b ss) 1 (size_start s.1) (size_look_up b ss)

-- so does any byte between two pieces
size_begin : (b : ℕ) → size (begin_piece b) ≤ 1
size_begin b =
    size-cond (nat_eq b 32) ([], between) _ 1 (omega arith)
    (size-cond (nat_le 49 b) _ (look_up b piece_starts) 1
    (size-cond (nat_le b 57) ([], in_number (0 * 10 + digit_value b)) (look_up b piece_starts) 1 (omega arith)
    (size_look_up b piece_starts))
    (size_look_up b piece_starts))

-- so does a byte that fits a keyword
size_keyword : (ks : List ℕ) (t : Token) → size (keyword_move ks t) ≤ 1
size_keyword [] t = omega arith
size_keyword (k ∷ ks) t = omega arith

-- a byte that ends a piece and begins another makes two tokens at most
size_then : (t : Token) (b : ℕ) → size (then_begin t (begin_piece b)) ≤ 2
size_then t b = omega (arith, size_begin b)

-- a byte adds one token at most to that of the open piece
size_step : (s : Scan) (b : ℕ) → size (scan_step s b) ≤ 1 + pending s
size_step between b = size_begin b
size_step (in_keyword k ks t) b =
    size-cond (nat_eq b k) (keyword_move ks t) (Junk ∷ [], between) 2 (omega (arith, size_keyword ks t)) (omega arith)
size_step (in_number n) b =
    size-cond (is_ascii_digit b) ([], in_number (n * 10 + digit_value b)) (then_begin (number_token n) (begin_piece b)) 2
    (omega arith) (size_then (number_token n) b)
size_step after_i b = size-cond (nat_eq b 110) _ (then_begin (Operand I) (begin_piece b)) 2 (omega arith) (size_then (Operand I) b)
size_step after_point b = size-cond (nat_eq b 46) (DotDot ∷ [], between) (then_begin Dot (begin_piece b)) 2 (omega arith) (size_then Dot b)

-- from any state on, the remaining bytes and the open piece bound the count of tokens
length-tokens_from : (s : Scan) (bs : List ℕ) → length (tokens_from s bs) ≤ length bs + pending s
unfolding tokens_from
length-tokens_from between [] = omega arith
length-tokens_from (in_keyword k ks t) [] = omega arith
length-tokens_from (in_number n) [] = omega arith
length-tokens_from after_i [] = omega arith
length-tokens_from after_point [] = omega arith
length-tokens_from s (b ∷ bs) =
    omega (
      arith,
      length-append (scan_step s b).0 (tokens_from (scan_step s b).1 bs),
      size_step s b,
      length-tokens_from (scan_step s b).1 bs,
    )

-- a text has at most as many tokens as bytes
pub length-tokens_of : (text : List ℕ) → length (tokens_of text) ≤ length text
length-tokens_of text = omega (arith, length-tokens_from between text)
