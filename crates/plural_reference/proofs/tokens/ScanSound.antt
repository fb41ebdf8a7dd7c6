-- Every text has a cut, with the tokens of the scan: the bytes of the open piece are kept beside
-- the state of the scan until the piece ends. From the scan to cuts; with ScanComplete the tokens
-- of a text are just the scan's, which the laws of reading, the lexer and the printed texts cite.
use Rattle.std.proofs.Common.{◌≡◌, ◌≢◌, ◌<◌, ◌≤◌, ◌+◌, ◌*◌, ℕ, List, [], ◌∷◌, ◌++◌, Option, Some, None, refl, sym, ap}
use Rattle.std.proofs.Common.{◌∙◌, subst, append_assoc, inl, inr, cond, Bool, true, false, nat_eq, arith, ⊎_elim, lit<}
use Rattle.std.proofs.lemmas.Bool.{eqb-false, true≢false}
use Rattle.std.proofs.lemmas.Bool.Decides.{eqb_tells, leb_tells}
use Rattle.std.proofs.lemmas.List.Elements.{All-from_recursion}
use Rattle.std.proofs.lemmas.Int.Digits.{digits_value_push}
use Rattle.std.specs.Prelude.{Contains, IfSome, ◌⊎◌, codes}
use Rattle.std.specs.List.{AllByRecursion, cons_option}
use Rattle.std.specs.Char.{is_ascii_digit, digit_value, IsAsciiDigit}
use Rattle.std.specs.Str.Parse.{digits_value}
use Rattle.plural_operands.specs.declared.operand.Operand.TheVariants.{I}
use Rattle.plural_reference.specs.declared.token.Token.{Token}
use Rattle.plural_reference.specs.declared.token.Token.TheVariants.{Operand, Zero, Dot, DotDot, Junk, Integer}
use Rattle.plural_reference.specs.Lexer.{first, Word, marks, keywords, IsDigitRun, max_number, IsBegun, BeginsNone, IsPiece}
use Rattle.plural_reference.specs.Lexer.{space, mark, keyword, number, unknown, too_large, broken, cut_off, AreTokensOf}
use Rattle.plural_reference.proofs.tokens.ScanComplete.{begins, begins_first, carried, cut_scans}
use Rattle.plural_reference.specs.Inner.Scan.{Start, gives, opens, Scan, between, in_keyword, in_number, after_i}
use Rattle.plural_reference.specs.Inner.Scan.{after_point, piece_starts, look_up, start_move, begin_piece, number_token}
use Rattle.plural_reference.specs.Inner.Scan.{keyword_move, then_begin, scan_step, scan_end, ScanMove, tokens_from, tokens_of}

-- two lists that are equal have equal first numbers
heads : (a b : ℕ) (xs ys : List ℕ) → a ∷ xs ≡ b ∷ ys → a ≡ b
heads a b xs ys e = cc

-- two numbers on which a test differs are different
apart : (a b : ℕ) → nat_eq a b ≡ false → a ≢ b
apart a b h = eqb-false a b h

-- so texts differ if a test differs on their first bytes
texts_apart : (a b : ℕ) (xs ys : List ℕ) → nat_eq a b ≡ false → a ∷ xs ≢ b ∷ ys
texts_apart a b xs ys h e = apart a b h (heads a b xs ys e)

-- a text of two bytes is none of one
two_not_one : (x y z : ℕ) → x ∷ y ∷ [] ≢ z ∷ []
two_not_one x y z e = cc

-- nor is any longer text
many_not_one : (x y : ℕ) (ys : List ℕ) (z : ℕ) → x ∷ y ∷ ys ≢ z ∷ []
many_not_one x y ys z e = cc

-- a text with a first byte is not empty
not_empty : (a : ℕ) (xs : List ℕ) → a ∷ xs ≢ []
not_empty a xs e = cc

-- two values that are present and equal are the same value
some_inj : {A : Type 0} {x y : A} → Some x ≡ Some y → x ≡ y
some_inj e = cc

-- a piece in front of a text with tokens: a text whose tokens begin with the one of the piece, if
-- it gives one
more_tokens : (piece rest : List ℕ) (token : Option Token) (ts : List Token) → IsPiece piece rest token
    → AreTokensOf rest ts → AreTokensOf (piece ++ rest) (cons_option token ts)
more_tokens piece rest token ts h k = ((piece, token) ∷ k.0, (rest, refl, h, k.1), ap (cons_option token) k.2)

-- the empty text is cut into no pieces
no_tokens : AreTokensOf [] []
no_tokens = ([], refl, refl)

-- the bytes w of a piece lead to the state
abbrev Opened : List ℕ → Scan → Type 0
Opened w between = w ≡ []
Opened w (in_keyword k ks t) = Contains keywords (w ++ k ∷ ks, t) × (w ≢ []) × (w ≢ codes "i")
Opened w (in_number n) = AllByRecursion IsAsciiDigit w × IfSome (first w) (λ d. d ≢ 48) × (w ≢ []) × (n ≡ digits_value 10 w)
Opened w after_i = w ≡ codes "i"
Opened w after_point = w ≡ codes "."

-- after the bytes of any open piece, these bytes are cut into the tokens of the scan
abbrev Cuts : List ℕ → Type 0
Cuts bs = (s : Scan) (w : List ℕ) → Opened w s → AreTokensOf (w ++ bs) (tokens_from s bs)

-- the bytes of an open keyword are a begun keyword
is_begun : (w : List ℕ) (k : ℕ) (ks : List ℕ) (t : Token) → Opened w (in_keyword k ks t) → IsBegun w k
is_begun w k ks t h = record { word = (w ++ k ∷ ks, t); more = ks; is_keyword = h.0; spelling = refl; nonempty = h.1; not_i = h.2 }

-- an open number that no digit follows is a piece, with Number or Junk as its token
number_piece : (w rest : List ℕ) (n : ℕ) → Opened w (in_number n) → IfSome (first rest) (λ d. ¬ (IsAsciiDigit d))
    → IsPiece w rest (Some (number_token n))
number_piece w rest n h whole =
    let run : IsDigitRun w rest =
    record { begins = h.1; nonempty = h.2; all_digits = All-from_recursion IsAsciiDigit w h.0; whole = whole } in
    ⊎_elim
    (λ small. number run (subst (λ x. x ≤ max_number) h.3 small.1) (rw (small.0, h.3) refl))
    (λ large. too_large run (subst (λ x. max_number < x) h.3 large.1) (rw large.0 refl))
    (leb_tells n max_number)

-- `i` is a piece, if no `n` follows
i_piece : (rest : List ℕ) → first rest ≢ Some 110 → IsPiece (codes "i") rest (Some (Operand I))
i_piece rest h = mark (Operand I) (6, lit< tt, refl) ((λ _. h), (λ e. absurd (texts_apart 105 46 [] [] refl e))) refl

-- `.` is a piece, if no other `.` follows
point_piece : (rest : List ℕ) → first rest ≢ Some 46 → IsPiece (codes ".") rest (Some Dot)
point_piece rest h = mark Dot (10, lit< tt, refl) ((λ e. absurd (texts_apart 46 105 [] [] refl e)), (λ _. h)) refl

-- ---- the first byte of a piece

-- a row of the table of first bytes is right: its byte is a mark that nothing goes on with, or it
-- opens a longer piece
abbrev StartOk : ℕ × Start → Type 0
StartOk (b, gives t) = Contains marks (b ∷ [], t) × (b ≢ 105) × (b ≢ 46)
StartOk (b, opens s) = Opened (b ∷ []) s

-- every row of the table of first bytes is right
starts_ok : AllByRecursion StartOk piece_starts
starts_ok = (
  ((0, lit< tt, refl), apart 110 105 refl, apart 110 46 refl),
  (
    ((1, lit< tt, refl), apart 102 105 refl, apart 102 46 refl),
    (
      ((2, lit< tt, refl), apart 116 105 refl, apart 116 46 refl),
      (
        ((3, lit< tt, refl), apart 118 105 refl, apart 118 46 refl),
        (
          ((4, lit< tt, refl), apart 119 105 refl, apart 119 46 refl),
          (
            ((5, lit< tt, refl), apart 99 105 refl, apart 99 46 refl),
            (
              refl,
              (
                ((7, lit< tt, refl), apart 101 105 refl, apart 101 46 refl),
                (
                  ((8, lit< tt, refl), apart 61 105 refl, apart 61 46 refl),
                  (
                    ((9, lit< tt, refl), apart 48 105 refl, apart 48 46 refl),
                    (
                      refl,
                      (
                        ((12, lit< tt, refl), apart 44 105 refl, apart 44 46 refl),
                        (
                          ((13, lit< tt, refl), apart 37 105 refl, apart 37 46 refl),
                          (
                            ((14, lit< tt, refl), apart 64 105 refl, apart 64 46 refl),
                            (
                              ((15, lit< tt, refl), apart 126 105 refl, apart 126 46 refl),
                              (
                                ((0, lit< tt, refl), not_empty 97 [], texts_apart 97 105 [] [] refl),
                                (
                                  ((1, lit< tt, refl), not_empty 111 [], texts_apart 111 105 [] [] refl),
                                  (
                                    ((2, lit< tt, refl), not_empty 33 [], texts_apart 33 105 [] [] refl),
                                    (
                                      ((3, lit< tt, refl), not_empty 100 [], texts_apart 100 105 [] [] refl),
                                      (
                                        ((4, lit< tt, refl), not_empty 226 [], texts_apart 226 105 [] [] refl),
                                        tt,
                                      ),
                                    ),
                                  ),
                                ),
                              ),
                            ),
                          ),
                        ),
                      ),
                    ),
                  ),
                ),
              ),
            ),
          ),
        ),
      ),
    ),
  ),
)

-- a byte is in a right row of the table, which says what it does, or in no row, and then it is Junk
data LooksUp (b : ℕ) (ss : List (ℕ × Start)) (m : ScanMove) : Type 0 where
  is_there : (s : Start) → StartOk (b, s) → m ≡ start_move s → LooksUp b ss m
  is_absent : AllByRecursion (λ (s : ℕ × Start). b ≢ s.0) ss → m ≡ (Junk ∷ [], between) → LooksUp b ss m

-- a row of another byte changes nothing
looks_up_more : (b : ℕ) (s : ℕ × Start) (ss : List (ℕ × Start)) (m : ScanMove) → b ≢ s.0 → LooksUp b ss m → LooksUp b (s ∷ ss) m
looks_up_more b s ss m h (is_there t k e) = is_there t k e
looks_up_more b s ss m h (is_absent k e) = is_absent (h, k) e

-- what a byte does by a table of right rows is said by a right row, or is Junk
looks_up : (b : ℕ) (ss : List (ℕ × Start)) → AllByRecursion StartOk ss → LooksUp b ss (look_up b ss)
looks_up b [] h = is_absent tt refl
looks_up b ((c, s) ∷ ss) h = ⊎_elim
    (λ same. is_there s (subst (λ x. StartOk (x, s)) (sym same.1) h.0) (rw same.0 refl))
    (λ differs. rw differs.0 (looks_up_more b (c, s) ss (look_up b ss) differs.1 (looks_up b ss h.1)))
    (eqb_tells b c)

-- a byte that is no space, no digit and in no row of the table begins no piece: each word begins
-- with the byte of a row
begins_none : (b : ℕ) → b ≢ 32 → (IsAsciiDigit b → ⊥) → AllByRecursion (λ (s : ℕ × Start). b ≢ s.0) piece_starts → BeginsNone b
begins_none b no_space no_digit h =
    let words =
    carried (λ (s : ℕ × Start). b ≢ s.0) (λ (word : Word). first word.0 ≢ Some b) (λ s word. begins s.0 word)
    (λ s word e other same. other (some_inj (sym same ∙ begins_first s.0 word e))) piece_starts (marks ++ keywords) h refl in
    (no_space, no_digit, All-from_recursion (λ (word : Word). first word.0 ≢ Some b) (marks ++ keywords) words)

-- ---- one byte more

-- a text with a byte at its end isn't empty
pushed_not_empty : (w : List ℕ) (k : ℕ) → w ++ k ∷ [] ≢ []
pushed_not_empty [] k e = cc
pushed_not_empty (x ∷ xs) k e = cc

-- a byte after some bytes makes another text than `i`
two_not_i : (w : List ℕ) (k : ℕ) → w ≢ [] → w ++ k ∷ [] ≢ codes "i"
two_not_i [] k h e = absurd (h refl)
two_not_i (x ∷ []) k h e = absurd (two_not_one x k 105 e)
two_not_i (x ∷ y ∷ ys) k h e = absurd (many_not_one x y (ys ++ k ∷ []) 105 e)

-- a byte in a right row is a piece or opens one: with a rest that is cut so, it is cut with the
-- tokens of the scan
one_piece : (b : ℕ) (bs : List ℕ) (s : Start) → StartOk (b, s) → Cuts bs
    → AreTokensOf (b ∷ bs) ((start_move s).0 ++ tokens_from (start_move s).1 bs)
one_piece b bs (gives t) h cuts =
    more_tokens (b ∷ []) bs (Some t) (tokens_of bs)
    (mark t h.0 ((λ e. absurd (h.1 (heads b 105 [] [] e))), (λ e. absurd (h.2 (heads b 46 [] [] e)))) refl)
    (cuts between [] refl)
one_piece b bs (opens s) h cuts = cuts s (b ∷ []) h

-- so is any byte but a space or a digit, with such a rest
looked_up : (b : ℕ) (bs : List ℕ) (m : ScanMove) → LooksUp b piece_starts m → b ≢ 32 → (IsAsciiDigit b → ⊥) → Cuts bs
    → AreTokensOf (b ∷ bs) (m.0 ++ tokens_from m.1 bs)
looked_up b bs m (is_there s h e) no_space no_digit cuts = rw e (one_piece b bs s h cuts)
looked_up b bs m (is_absent h e) no_space no_digit cuts =
    rw e
    (more_tokens (b ∷ []) bs (Some Junk) (tokens_of bs) (unknown b refl (begins_none b no_space no_digit h) refl)
    (cuts between [] refl))

-- so is any byte but a space or the first digit of a number, since `0` is in the table
no_digit_looked_up : (b : ℕ) (bs : List ℕ) → b ≢ 32 → (b < 49) ⊎ (57 < b) → Cuts bs
    → AreTokensOf (b ∷ bs) ((look_up b piece_starts).0 ++ tokens_from (look_up b piece_starts).1 bs)
no_digit_looked_up b bs no_space out cuts =
    ⊎_elim
    (λ zero_is. rw zero_is.1 (one_piece 48 bs (gives Zero) ((9, lit< tt, refl), apart 48 105 refl, apart 48 46 refl) cuts))
    (λ not_zero. looked_up b bs (look_up b piece_starts) (looks_up b piece_starts starts_ok) no_space
    (λ d. absurd (⊎_elim (λ low. let e : b ≡ 48 = omega arith in not_zero.1 e) (λ high. omega arith) out)) cuts)
    (eqb_tells b 48)

-- so is any byte at all, with such a rest
begin_cuts : (b : ℕ) (bs : List ℕ) → Cuts bs → AreTokensOf (b ∷ bs) ((begin_piece b).0 ++ tokens_from (begin_piece b).1 bs)
begin_cuts b bs cuts =
    ⊎_elim
    (λ is_space. rw is_space.1 (more_tokens (32 ∷ []) bs None (tokens_of bs) (space refl refl) (cuts between [] refl)))
    (λ no_space.
    ⊎_elim
    (λ low. ⊎_elim
    (λ high. rw (no_space.0, low.0, high.0)
    (cuts (in_number (0 * 10 + digit_value b)) (b ∷ [])
    (((omega arith, high.1), tt), (λ e. omega arith), not_empty b [], refl)))
    (λ high. rw (no_space.0, low.0, high.0) (no_digit_looked_up b bs no_space.1 (inr high.1) cuts))
    (leb_tells b 57))
    (λ low. rw (no_space.0, low.0) (no_digit_looked_up b bs no_space.1 (inl low.1) cuts))
    (leb_tells 49 b))
    (eqb_tells b 32)

-- so is a piece that the next byte ends, with that byte and such a rest
ended_cuts : (w : List ℕ) (t : Token) (b : ℕ) (bs : List ℕ) → IsPiece w (b ∷ bs) (Some t) → Cuts bs
    → AreTokensOf (w ++ b ∷ bs) ((then_begin t (begin_piece b)).0 ++ tokens_from (then_begin t (begin_piece b)).1 bs)
ended_cuts w t b bs h cuts =
    more_tokens w (b ∷ bs) (Some t) ((begin_piece b).0 ++ tokens_from (begin_piece b).1 bs) h (begin_cuts b bs cuts)

-- so is an open keyword with the byte that it awaits, and such a rest
keyword_cuts : (w : List ℕ) (k : ℕ) (ks : List ℕ) (t : Token) (bs : List ℕ) → Opened w (in_keyword k ks t) → Cuts bs
    → AreTokensOf (w ++ k ∷ bs) ((keyword_move ks t).0 ++ tokens_from (keyword_move ks t).1 bs)
keyword_cuts w k [] t bs h cuts =
    subst (λ l. AreTokensOf l (t ∷ tokens_of bs)) (append_assoc w (k ∷ []) bs)
    (more_tokens (w ++ k ∷ []) bs (Some t) (tokens_of bs) (keyword t h.0 refl) (cuts between [] refl))
keyword_cuts w k (l ∷ ls) t bs h cuts = subst (λ x. AreTokensOf x (tokens_from (in_keyword l ls t) bs)) (append_assoc w (k ∷ []) bs)
    (cuts (in_keyword l ls t) (w ++ k ∷ []) (
      subst (λ x. Contains keywords (x, t)) (sym (append_assoc w (k ∷ []) (l ∷ ls))) h.0,
      pushed_not_empty w k,
      two_not_i w k h.1,
    ))

-- the test of digits distinguishes ASCII digits from other bytes
digit_tells : (b : ℕ) → ((is_ascii_digit b ≡ true) × IsAsciiDigit b) ⊎ ((is_ascii_digit b ≡ false) × (IsAsciiDigit b → ⊥))
digit_tells b =
    ⊎_elim
    (λ low. ⊎_elim
    (λ high. inl (rw (low.0, high.0) refl, (low.1, high.1)))
    (λ high. inr (rw (low.0, high.0) refl, λ d. let le : b ≤ 57 = d.1 in omega arith))
    (leb_tells b 57))
    (λ low. inr (rw low.0 refl, λ d. let le : 48 ≤ b = d.0 in omega arith))
    (leb_tells 48 b)

-- digits with a digit at the end are digits
all_pushed : (w : List ℕ) (b : ℕ) → AllByRecursion IsAsciiDigit w → IsAsciiDigit b → AllByRecursion IsAsciiDigit (w ++ b ∷ [])
all_pushed [] b h k = (k, tt)
all_pushed (x ∷ xs) b h k = (h.0, all_pushed xs b h.1 k)

-- a digit after a number keeps its first digit, which isn't `0`
first_pushed : (w : List ℕ) (b : ℕ) → w ≢ [] → IfSome (first w) (λ d. d ≢ 48) → IfSome (first (w ++ b ∷ [])) (λ d. d ≢ 48)
first_pushed [] b h k = absurd (h refl)
first_pushed (x ∷ xs) b h k = k

-- an open number with one more digit is an open number of the value that the scan computes
number_pushed : (w : List ℕ) (n b : ℕ) → Opened w (in_number n) → IsAsciiDigit b → Opened (w ++ b ∷ []) (in_number (n * 10 + digit_value b))
number_pushed w n b h d = (
  all_pushed w b h.0 d,
  first_pushed w b h.2 h.1,
  pushed_not_empty w b,
  ap (λ x. x * 10 + digit_value b) h.3 ∙ sym (digits_value_push 10 w b),
)

-- what is absent is not there
none_is_not_some : {A : Type 0} {x : A} → None ≢ Some x
none_is_not_some e = cc

-- what a failed test leaves is its second move
by_test : (b : ℕ) (w bs : List ℕ) (test : Bool) (m n : ScanMove) → test ≡ false
    → AreTokensOf (w ++ b ∷ bs) (n.0 ++ tokens_from n.1 bs)
    → AreTokensOf (w ++ b ∷ bs) ((cond test m n).0 ++ tokens_from (cond test m n).1 bs)
by_test b w bs true m n e h = absurd (true≢false e)
by_test b w bs false m n e h = h

-- so is any open piece with any byte after it, and such a rest
said_step : (w : List ℕ) (s : Scan) (b : ℕ) (bs : List ℕ) → Opened w s → Cuts bs
    → AreTokensOf (w ++ b ∷ bs) ((scan_step s b).0 ++ tokens_from (scan_step s b).1 bs)
said_step w between b bs h cuts =
    subst (λ l. AreTokensOf (l ++ b ∷ bs) ((begin_piece b).0 ++ tokens_from (begin_piece b).1 bs)) (sym h) (begin_cuts b bs cuts)
said_step w (in_keyword k ks t) b bs h cuts =
    ⊎_elim
    (λ same. rw (same.0)
    (subst (λ x. AreTokensOf (w ++ x ∷ bs) ((keyword_move ks t).0 ++ tokens_from (keyword_move ks t).1 bs))
    (sym same.1) (keyword_cuts w k ks t bs h cuts)))
    (λ differs. rw differs.0
    (subst (λ l. AreTokensOf l (Junk ∷ tokens_of bs)) (append_assoc w (b ∷ []) bs)
    (more_tokens (w ++ b ∷ []) bs (Some Junk) (tokens_of bs)
    (broken w k b refl (is_begun w k ks t h) differs.1 refl) (cuts between [] refl))))
    (eqb_tells b k)
said_step w (in_number n) b bs h cuts =
    ⊎_elim
    (λ yes. rw yes.0
    (subst (λ l. AreTokensOf l (tokens_from (in_number (n * 10 + digit_value b)) bs)) (append_assoc w (b ∷ []) bs)
    (cuts (in_number (n * 10 + digit_value b)) (w ++ b ∷ []) (number_pushed w n b h yes.1))))
    (λ no. rw no.0 (ended_cuts w (number_token n) b bs (number_piece w (b ∷ bs) n h no.1) cuts))
    (digit_tells b)
said_step w after_i b bs h cuts =
    ⊎_elim
    (λ same. rw (same.1, h)
    (cuts (in_keyword 116 (101 ∷ 103 ∷ 101 ∷ 114 ∷ []) Integer) (105 ∷ 110 ∷ [])
    ((5, lit< tt, refl), not_empty 105 (110 ∷ []), two_not_one 105 110 105)))
    (λ differs. by_test b w bs (nat_eq b 110) ([], in_keyword 116 (101 ∷ 103 ∷ 101 ∷ 114 ∷ []) Integer)
    (then_begin (Operand I) (begin_piece b)) differs.0
    (rw h (ended_cuts (codes "i") (Operand I) b bs (i_piece (b ∷ bs) (λ e. differs.1 (some_inj e))) cuts)))
    (eqb_tells b 110)
said_step w after_point b bs h cuts =
    ⊎_elim
    (λ same. rw (same.1, h)
    (more_tokens (codes "..") bs (Some DotDot) (tokens_of bs)
    (mark DotDot (11, lit< tt, refl)
    ((λ e. absurd (texts_apart 46 105 (46 ∷ []) [] refl e)), (λ e. absurd (two_not_one 46 46 46 e))) refl)
    (cuts between [] refl)))
    (λ differs. by_test b w bs (nat_eq b 46) (DotDot ∷ [], between) (then_begin Dot (begin_piece b)) differs.0
    (rw h (ended_cuts (codes ".") Dot b bs (point_piece (b ∷ bs) (λ e. differs.1 (some_inj e))) cuts)))
    (eqb_tells b 46)

-- an open piece at the end of the text is a piece, or is cut off, with the token that the scan
-- gives at its end
said_end : (w : List ℕ) (s : Scan) → Opened w s → AreTokensOf (w ++ []) (scan_end s)
said_end w between h = rw h no_tokens
said_end w (in_keyword k ks t) h = more_tokens w [] (Some Junk) [] (cut_off k (is_begun w k ks t h) refl refl) no_tokens
said_end w (in_number n) h = more_tokens w [] (Some (number_token n)) [] (number_piece w [] n h tt) no_tokens
said_end w after_i h = rw h (more_tokens (codes "i") [] (Some (Operand I)) [] (i_piece [] none_is_not_some) no_tokens)
said_end w after_point h = rw h (more_tokens (codes ".") [] (Some Dot) [] (point_piece [] none_is_not_some) no_tokens)

-- from every open piece on, the text is cut with the tokens of the scan
all_cuts : (bs : List ℕ) → Cuts bs
unfolding tokens_from
all_cuts [] s w h = said_end w s h
all_cuts (b ∷ bs) s w h = said_step w s b bs h (all_cuts bs)

-- every text has tokens: the scan's
pub has_tokens : (text : List ℕ) → AreTokensOf text (tokens_of text)
has_tokens text = all_cuts text between [] refl

-- a text has no other tokens than the scan's
pub tokens_are : (text : List ℕ) (tokens : List Token) → AreTokensOf text tokens → tokens ≡ tokens_of text
tokens_are text tokens h = h.2 ∙ sym (cut_scans text h.0 h.1)
