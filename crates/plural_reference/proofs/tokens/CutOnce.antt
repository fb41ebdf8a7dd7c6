-- A text is cut in one way only: the scan, used for the bytes of the first piece in place of its
-- token, finds the first piece of any cut. From ScanSound and ScanComplete to the law that every
-- text has exactly one cut.
use Rattle.std.proofs.Common.{◌≡◌, ◌≢◌, ◌*◌, ◌+◌, ℕ, List, [], ◌∷◌, ◌++◌, Option, Some, None, refl}
use Rattle.std.proofs.Common.{sym, ap, ◌∙◌, append_assoc, drop, is_some, length, subst, true, arith}
use Rattle.std.proofs.lemmas.Bool.{eq-eqb, false≢true}
use Rattle.std.proofs.lemmas.List.{append-nil, append_cancel_left}
use Rattle.std.proofs.lemmas.List.Elements.{All-contains, All-from_recursion, recursion_from_All}
use Rattle.std.specs.Prelude.{IfSome, codes}
use Rattle.std.specs.List.{AllByRecursion, list_all, cons_option}
use Rattle.std.specs.Char.{digit_value, IsAsciiDigit}
use Rattle.plural_operands.specs.declared.operand.Operand.TheVariants.{I}
use Rattle.plural_reference.specs.declared.ast.Operator.TheVariants.{NotEq}
use Rattle.plural_reference.specs.declared.token.Token.{Token}
use Rattle.plural_reference.specs.declared.token.Token.TheVariants.{Operand, Operator, Dot, Or, And, Decimal, Integer, Ellipsis}
use Rattle.plural_reference.specs.Lexer.{first, Word, marks, keywords, MayFollow, IsDigitRun, IsBegun, BeginsNone, IsPiece}
use Rattle.plural_reference.specs.Lexer.{space, mark, keyword, number, unknown, too_large, broken, cut_off, Piece, IsCut}
use Rattle.plural_reference.specs.ReadingLaws.{HaveOneCut}
use Rattle.plural_reference.specs.Inner.Scan.{Scan, between, in_keyword, in_number}
use Rattle.plural_reference.specs.Inner.Scan.{tokens_of}
use Rattle.plural_reference.specs.Inner.BehindFirst.{Bite, stops, ends, goes, bite}
use Rattle.plural_reference.proofs.tokens.ScanComplete.{no_more, no_eq, digit_yes, digit_no, begin_digit, begin_unknown, piece_scans}
use Rattle.plural_reference.proofs.tokens.ScanSound.{has_tokens}

-- the bytes that it adds to the piece: none, itself, or itself and what more belongs to the piece
abbrev pub bitten : Bite → ℕ → (Scan → List ℕ) → List ℕ
bitten stops b more = []
bitten ends b more = b ∷ []
bitten (goes s) b more = b ∷ more s

-- the bytes that belong to the open piece
unfoldable pub piece_from : Scan → List ℕ → List ℕ
piece_from s [] = []
piece_from s (b ∷ bs) = bitten (bite s b) b (λ next. piece_from next bs)

-- the bytes of the first piece of a text
abbrev pub first_piece : List ℕ → List ℕ
first_piece text = piece_from between text

-- ---- marks and keywords

-- a mark is the first piece before whatever may follow it
abbrev MarkBitten : Word → Type 0
MarkBitten w = (rest : List ℕ) → MayFollow w.0 rest → first_piece (w.0 ++ rest) ≡ w.0

-- a keyword is the first piece, whatever follows
abbrev KeywordBitten : Word → Type 0
KeywordBitten w = (rest : List ℕ) → first_piece (w.0 ++ rest) ≡ w.0

-- `i` is the first piece, if no `n` follows
i_bitten : MarkBitten (codes "i", Operand I)
unfolding piece_from
i_bitten [] h = refl
i_bitten (b ∷ bs) h = rw (no_eq b 110 (λ e. h.0 refl (ap Some e))) refl

-- `.` is the first piece, if no other `.` follows
point_bitten : MarkBitten (codes ".", Dot)
unfolding piece_from
point_bitten [] h = refl
point_bitten (b ∷ bs) h = rw (no_eq b 46 (λ e. h.1 refl (ap Some e))) refl

-- each mark is the first piece
marks_bitten : AllByRecursion MarkBitten marks
unfolding piece_from
marks_bitten =
    let from_equals : AllByRecursion MarkBitten (drop 8 marks) =
    (λ _ _. refl, (λ _ _. refl, (point_bitten, (λ _ _. refl, (λ _ _. refl, (λ _ _. refl, (λ _ _. refl, (λ _ _. refl, tt)))))))) in
    (λ _ _. refl, (λ _ _. refl, (λ _ _. refl, (λ _ _. refl, (λ _ _. refl, (λ _ _. refl, (i_bitten, (λ _ _. refl, from_equals))))))))

-- each keyword is the first piece
keywords_bitten : AllByRecursion KeywordBitten keywords
unfolding piece_from
keywords_bitten = (λ _. refl, (λ _. refl, (λ _. refl, (λ _. refl, (λ _. refl, (λ _. refl, tt))))))

-- ---- broken keywords

-- if a keyword is open, the bytes that fit belong to the piece
tail_bitten : (k : ℕ) (ks : List ℕ) (t : Token) (begun : List ℕ) (next : ℕ) (more rest : List ℕ)
    → k ∷ ks ≡ begun ++ next ∷ more
    → piece_from (in_keyword k ks t) (begun ++ rest) ≡ begun ++ piece_from (in_keyword next more t) rest
unfolding piece_from
tail_bitten k ks t [] next more rest h = let same_k : k ≡ next = cc in let same_ks : ks ≡ more = cc in rw (same_k, same_ks) refl
tail_bitten k [] t (b ∷ bs) next more rest h = absurd (no_more b bs next more k h)
tail_bitten k (l ∷ ls) t (b ∷ bs) next more rest h =
    let same_k : k ≡ b = cc in
    let tail : l ∷ ls ≡ bs ++ next ∷ more = cc in
    rw (← same_k, eq-eqb k k refl) (ap (λ x. k ∷ x) (tail_bitten l ls t bs next more rest tail))

-- at each byte of a keyword but the last, the part so far belongs to the first piece
abbrev BegunBitten : Word → Type 0
BegunBitten w =
    (begun : List ℕ) (next : ℕ) (more rest : List ℕ) → w.0 ≡ begun ++ next ∷ more → begun ≢ [] → begun ≢ codes "i"
    → first_piece (begun ++ rest) ≡ begun ++ piece_from (in_keyword next more w.1) rest

-- it does so of a keyword whose first byte alone opens it
begun_from : (first_byte k : ℕ) (ks : List ℕ) (t : Token)
    → ((rest : List ℕ) → first_piece (first_byte ∷ rest) ≡ first_byte ∷ piece_from (in_keyword k ks t) rest)
    → BegunBitten (first_byte ∷ k ∷ ks, t)
begun_from f k ks t h [] next more rest e ne ni = absurd (ne refl)
begun_from f k ks t h (b ∷ bs) next more rest e ne ni =
    let same_f : f ≡ b = cc in
    let tail : k ∷ ks ≡ bs ++ next ∷ more = cc in
    rw (← same_f) (h (bs ++ rest) ∙ ap (λ x. f ∷ x) (tail_bitten k ks t bs next more rest tail))

-- it does so of `integer` from `in` on, since `i` alone is an operand
integer_begun : BegunBitten (codes "integer", Integer)
unfolding piece_from
integer_begun [] next more rest e ne ni = absurd (ne refl)
integer_begun (b ∷ []) next more rest e ne ni = let same : b ≡ 105 = cc in absurd (ni (ap (λ x. x ∷ []) same))
integer_begun (b ∷ c ∷ bs) next more rest e ne ni =
    let same_b : b ≡ 105 = cc in
    let same_c : c ≡ 110 = cc in
    let tail : 116 ∷ 101 ∷ 103 ∷ 101 ∷ 114 ∷ [] ≡ bs ++ next ∷ more = cc in
    rw (same_b, same_c) (ap (λ x. 105 ∷ 110 ∷ x) (tail_bitten 116 (101 ∷ 103 ∷ 101 ∷ 114 ∷ []) Integer bs next more rest tail))

-- it does so of every keyword
begun_bitten : AllByRecursion BegunBitten keywords
unfolding piece_from
begun_bitten = (
  begun_from 97 110 (100 ∷ []) And (λ _. refl),
  (
    begun_from 111 114 [] Or (λ _. refl),
    (
      begun_from 33 61 [] (Operator NotEq) (λ _. refl),
      (
        begun_from 100 101 (99 ∷ 105 ∷ 109 ∷ 97 ∷ 108 ∷ []) Decimal (λ _. refl),
        (begun_from 0xe2 0x80 (0xa6 ∷ []) Ellipsis (λ _. refl), (integer_begun, tt)),
      ),
    ),
  ),
)

-- the bytes of a begun keyword belong to the first piece
begun_leads : (begun : List ℕ) (next : ℕ) (rest : List ℕ) (h : IsBegun begun next)
    → first_piece (begun ++ rest) ≡ begun ++ piece_from (in_keyword next h.more h.word.1) rest
begun_leads begun next rest h =
    All-contains BegunBitten keywords h.word (All-from_recursion BegunBitten keywords begun_bitten) h.is_keyword begun
    next h.more rest h.spelling h.nonempty h.not_i

-- a keyword that a wrong byte breaks off is the first piece, together with that byte
broken_bitten : (begun : List ℕ) (next b : ℕ) (rest : List ℕ) → IsBegun begun next → b ≢ next
    → first_piece ((begun ++ b ∷ []) ++ rest) ≡ begun ++ b ∷ []
unfolding piece_from
broken_bitten begun next b rest h differs =
    ap first_piece (append_assoc begun (b ∷ []) rest)
    ∙ begun_leads begun next (b ∷ rest) h
    ∙ rw (no_eq b next differs) refl

-- a keyword that the end of the text cuts off is the first piece
cut_off_bitten : (begun : List ℕ) (next : ℕ) → IsBegun begun next → first_piece (begun ++ []) ≡ begun
unfolding piece_from
cut_off_bitten begun next h = begun_leads begun next [] h ∙ append-nil begun

-- ---- numbers and other bytes

-- digits that no digit follows are what an open number takes
digits_bitten : (n : ℕ) (digits rest : List ℕ) → AllByRecursion IsAsciiDigit digits
    → IfSome (first rest) (λ d. ¬ (IsAsciiDigit d)) → piece_from (in_number n) (digits ++ rest) ≡ digits
unfolding piece_from
digits_bitten n [] [] all whole = refl
digits_bitten n [] (b ∷ bs) all whole = rw (digit_no b whole) refl
digits_bitten n (d ∷ ds) rest all whole =
    rw (digit_yes d all.0) (ap (λ x. d ∷ x) (digits_bitten (n * 10 + digit_value d) ds rest all.1 whole))

-- a run of digits is the first piece
run_bitten : (digits rest : List ℕ) → IsDigitRun digits rest → first_piece (digits ++ rest) ≡ digits
unfolding piece_from
run_bitten [] rest h = absurd (h.nonempty refl)
run_bitten (d ∷ ds) rest h =
    let all = recursion_from_All IsAsciiDigit (d ∷ ds) h.all_digits in
    rw (begin_digit d all.0 h.begins) (ap (λ x. d ∷ x) (digits_bitten (0 * 10 + digit_value d) ds rest all.1 h.whole))

-- a byte that begins no piece is the first piece alone
unknown_bitten : (b : ℕ) (rest : List ℕ) → BeginsNone b → first_piece (b ∷ rest) ≡ b ∷ []
unfolding piece_from
unknown_bitten b rest h = rw (begin_unknown b h) refl

-- ---- pieces and cuts

-- a piece in front of a rest is the first piece of the text
pub piece_bitten : (piece rest : List ℕ) (token : Option Token) → IsPiece piece rest token → first_piece (piece ++ rest) ≡ piece
unfolding piece_from
piece_bitten piece rest token (space e t) = rw e refl
piece_bitten piece rest token (mark t c f k) =
    All-contains MarkBitten marks (piece, t) (All-from_recursion MarkBitten marks marks_bitten) c rest f
piece_bitten piece rest token (keyword t c k) =
    All-contains KeywordBitten keywords (piece, t) (All-from_recursion KeywordBitten keywords keywords_bitten) c rest
piece_bitten piece rest token (number r small k) = run_bitten piece rest r
piece_bitten piece rest token (unknown b e n k) = rw e (unknown_bitten b rest n)
piece_bitten piece rest token (too_large r large k) = run_bitten piece rest r
piece_bitten piece rest token (broken begun next b e g d k) = rw e (broken_bitten begun next b rest g d)
piece_bitten piece rest token (cut_off next g e k) = rw e (cut_off_bitten piece next g)

-- a text with a first byte is not empty
not_empty : (b : ℕ) (bs : List ℕ) → b ∷ bs ≢ []
not_empty b bs e = cc

-- a text with a byte at its end isn't empty
pushed_not_empty : (bs : List ℕ) (b : ℕ) → bs ++ b ∷ [] ≢ []
pushed_not_empty [] b e = cc
pushed_not_empty (x ∷ xs) b e = cc

-- a word with a first byte is not empty
words_not_empty : (ws : List Word) → list_all (λ (w : Word). is_some (first w.0)) ws ≡ true → AllByRecursion (λ (w : Word). w.0 ≢ []) ws
words_not_empty [] e = tt
words_not_empty (([], t) ∷ ws) e = absurd (false≢true e)
words_not_empty ((b ∷ bs, t) ∷ ws) e = (not_empty b bs, words_not_empty ws e)

-- no piece is empty
pub piece_not_empty : (piece rest : List ℕ) (token : Option Token) → IsPiece piece rest token → piece ≢ []
piece_not_empty piece rest token (space e t) = rw e (not_empty 32 [])
piece_not_empty piece rest token (mark t c f k) =
    All-contains (λ (w : Word). w.0 ≢ []) marks (piece, t)
    (All-from_recursion (λ (w : Word). w.0 ≢ []) marks (words_not_empty marks refl)) c
piece_not_empty piece rest token (keyword t c k) =
    All-contains (λ (w : Word). w.0 ≢ []) keywords (piece, t)
    (All-from_recursion (λ (w : Word). w.0 ≢ []) keywords (words_not_empty keywords refl)) c
piece_not_empty piece rest token (number r small k) = r.nonempty
piece_not_empty piece rest token (unknown b e n k) = rw e (not_empty b [])
piece_not_empty piece rest token (too_large r large k) = r.nonempty
piece_not_empty piece rest token (broken begun next b e g d k) = rw e (pushed_not_empty begun b)
piece_not_empty piece rest token (cut_off next g e k) = g.nonempty

-- the empty text has no piece
no_piece_of_none : (piece rest : List ℕ) (token : Option Token) → IsPiece piece rest token → [] ≡ piece ++ rest → ⊥
no_piece_of_none [] rest token h e = piece_not_empty [] rest token h refl
no_piece_of_none (b ∷ bs) rest token h e = cc

-- a list is not itself with one more in front
longer : (t : Token) (ts : List Token) → ts ≡ t ∷ ts → ⊥
longer t ts e = let l = ap length e in omega arith

-- the list that a token, or none, makes in front of another determines the token
same_token : (a b : Option Token) (ts : List Token) → cons_option a ts ≡ cons_option b ts → a ≡ b
same_token None None ts e = refl
same_token None (Some y) ts e = absurd (longer y ts e)
same_token (Some x) None ts e = absurd (longer x ts (sym e))
same_token (Some x) (Some y) ts e = cc

-- the first pieces of two cuts are one
record SamePiece (p q : Piece) (a b : List ℕ) : Type 0 where
  piece_is : p ≡ q
  rest_is : a ≡ b

-- two cuts of a text begin with one piece, and leave one rest
same_piece : (text a b : List ℕ) (p q : Piece) → text ≡ p.0 ++ a → IsPiece p.0 a p.1 → text ≡ q.0 ++ b
    → IsPiece q.0 b q.1 → SamePiece p q a b
same_piece text a b p q e h f k =
    let bytes : p.0 ≡ q.0 = sym (piece_bitten p.0 a p.1 h) ∙ ap first_piece (sym e ∙ f) ∙ piece_bitten q.0 b q.1 k in
    let rest : a ≡ b = append_cancel_left p.0 a b (sym e ∙ f ∙ ap (λ x. x ++ b) (sym bytes)) in
    let token : p.1 ≡ q.1 = same_token p.1 q.1 (tokens_of a)
    (sym (piece_scans p.0 a p.1 h)
    ∙ ap tokens_of (sym e ∙ f)
    ∙ piece_scans q.0 b q.1 k
    ∙ ap (λ x. cons_option q.1 (tokens_of x)) (sym rest)) in
    record { piece_is = λ i. (bytes i, token i); rest_is = rest }

-- two cuts of a text are one
pub one_cut : (text : List ℕ) (ps qs : List Piece) → IsCut text ps → IsCut text qs → ps ≡ qs
one_cut text [] [] h k = refl
one_cut text [] (q ∷ qs) h k = absurd (no_piece_of_none q.0 k.0 q.1 k.2 (sym h ∙ k.1))
one_cut text (p ∷ ps) [] h k = absurd (no_piece_of_none p.0 h.0 p.1 h.2 (sym k ∙ h.1))
one_cut text (p ∷ ps) (q ∷ qs) h k =
    let same = same_piece text h.0 k.0 p q h.1 h.2 k.1 k.2 in
    let more : ps ≡ qs = one_cut h.0 ps qs h.3 (subst (λ l. IsCut l qs) (sym same.rest_is) k.3) in
    λ i. same.piece_is i ∷ more i

-- every text has a cut, and no other
pub have_one_cut : HaveOneCut
have_one_cut text = let h = has_tokens text in (h.0, h.1, λ other k. one_cut text other h.0 k h.1)
