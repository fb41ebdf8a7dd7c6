-- A cut of a text has the tokens of the scan: each piece, scanned from between two pieces, gives
-- its token and leads back there. From cuts to the scan; ScanSound, CutOnce and the tokens of
-- printed texts cite it.
use Rattle.std.proofs.Common.{◌≡◌, ◌≢◌, ◌≤◌, ◌+◌, ◌*◌, ℕ, List, [], ◌∷◌, ◌++◌, Bool, Option, Some, refl}
use Rattle.std.proofs.Common.{sym, ap, ◌∙◌, append_assoc, drop, inl, inr, true, false, nat_eq, arith, ⊎_elim}
use Rattle.std.proofs.lemmas.Bool.{and_parts, eq-eqb, eqb-true, false≢true, le-leb, lt-leb, or_cases}
use Rattle.std.proofs.lemmas.Bool.Decides.{eqb_tells, leb_tells, nat_tests}
use Rattle.std.proofs.lemmas.List.Elements.{All-contains, All-from_recursion, recursion_from_All}
use Rattle.std.specs.Prelude.{All, IfSome, codes}
use Rattle.std.specs.List.{AllByRecursion, list_any, list_all, filter_map, cons_option}
use Rattle.std.specs.Char.{is_ascii_digit, digit_value, IsAsciiDigit}
use Rattle.std.specs.Str.Parse.{digits_value, digits_value_after}
use Rattle.plural_operands.specs.declared.operand.Operand.TheVariants.{I}
use Rattle.plural_reference.specs.declared.ast.Operator.TheVariants.{NotEq}
use Rattle.plural_reference.specs.declared.token.Token.{Token}
use Rattle.plural_reference.specs.declared.token.Token.TheVariants.{Operand, Operator, Dot, Or, And, Junk, Decimal, Integer, Ellipsis}
use Rattle.plural_reference.specs.Lexer.{first, Word, marks, keywords, MayFollow, IsDigitRun, IsBegun, BeginsNone, IsPiece}
use Rattle.plural_reference.specs.Lexer.{space, mark, keyword, number, unknown, too_large, broken, cut_off, Piece, IsCut}
use Rattle.plural_reference.specs.Inner.Scan.{Start, between, in_keyword, in_number, piece_starts, look_up}
use Rattle.plural_reference.specs.Inner.Scan.{begin_piece, number_token, tokens_from, tokens_of}

-- a list of one byte has no other byte after its first
pub no_more : (b : ℕ) (bs : List ℕ) (next : ℕ) (more : List ℕ) (k : ℕ) → k ∷ [] ≡ (b ∷ bs) ++ next ∷ more → ⊥
no_more b [] next more k h = cc
no_more b (c ∷ cs) next more k h = cc

-- a mark gives its token
abbrev MarkScans : Word → Type 0
MarkScans w = (rest : List ℕ) → MayFollow w.0 rest → tokens_of (w.0 ++ rest) ≡ w.1 ∷ tokens_of rest

-- a keyword gives its token, whatever follows
abbrev KeywordScans : Word → Type 0
KeywordScans w = (rest : List ℕ) → tokens_of (w.0 ++ rest) ≡ w.1 ∷ tokens_of rest

-- two numbers that differ fail the test of equality
pub no_eq : (a b : ℕ) → a ≢ b → nat_eq a b ≡ false
no_eq a b h = ⊎_elim (λ p. absurd (h p.1)) (λ p. p.0) (eqb_tells a b)

-- `i` gives the operand i, if no `n` follows
i_scans : MarkScans (codes "i", Operand I)
unfolding tokens_from
i_scans [] h = refl
i_scans (b ∷ bs) h = rw (no_eq b 110 (λ e. h.0 refl (ap Some e))) refl

-- `.` gives Dot, if no other `.` follows
point_scans : MarkScans (codes ".", Dot)
unfolding tokens_from
point_scans [] h = refl
point_scans (b ∷ bs) h = rw (no_eq b 46 (λ e. h.1 refl (ap Some e))) refl

-- each mark gives its token before whatever may follow it
marks_scan : AllByRecursion MarkScans marks
unfolding tokens_from
marks_scan =
    let from_equals : AllByRecursion MarkScans (drop 8 marks) =
    (λ _ _. refl, (λ _ _. refl, (point_scans, (λ _ _. refl, (λ _ _. refl, (λ _ _. refl, (λ _ _. refl, (λ _ _. refl, tt)))))))) in
    (λ _ _. refl, (λ _ _. refl, (λ _ _. refl, (λ _ _. refl, (λ _ _. refl, (λ _ _. refl, (i_scans, (λ _ _. refl, from_equals))))))))

-- each keyword gives its token
keywords_scan : AllByRecursion KeywordScans keywords
unfolding tokens_from
keywords_scan = (λ rest. refl, (λ rest. refl, (λ rest. refl, (λ rest. refl, (λ rest. refl, (λ rest. refl, tt))))))

-- ---- broken keywords

-- the bytes of a keyword so far lead to the bytes that are expected next
keyword_tail : (k : ℕ) (ks : List ℕ) (t : Token) (begun : List ℕ) (next : ℕ) (more rest : List ℕ)
    → k ∷ ks ≡ begun ++ next ∷ more
    → tokens_from (in_keyword k ks t) (begun ++ rest) ≡ tokens_from (in_keyword next more t) rest
unfolding tokens_from
keyword_tail k ks t [] next more rest h = let same_k : k ≡ next = cc in let same_ks : ks ≡ more = cc in rw (same_k, same_ks) refl
keyword_tail k [] t (b ∷ bs) next more rest h = absurd (no_more b bs next more k h)
keyword_tail k (l ∷ ls) t (b ∷ bs) next more rest h =
    let same_k : k ≡ b = cc in
    let tail : l ∷ ls ≡ bs ++ next ∷ more = cc in
    rw (← same_k, eq-eqb k k refl) (keyword_tail l ls t bs next more rest tail)

-- at each byte of a keyword but the last, the part so far leads the scan to the bytes that are
-- expected
abbrev BegunScans : Word → Type 0
BegunScans w =
    (begun : List ℕ) (next : ℕ) (more rest : List ℕ) → w.0 ≡ begun ++ next ∷ more → begun ≢ [] → begun ≢ codes "i"
    → tokens_of (begun ++ rest) ≡ tokens_from (in_keyword next more w.1) rest

-- a keyword does so whose first byte alone opens it
begun_from : (first_byte k : ℕ) (ks : List ℕ) (t : Token)
    → ((rest : List ℕ) → tokens_of (first_byte ∷ rest) ≡ tokens_from (in_keyword k ks t) rest)
    → BegunScans (first_byte ∷ k ∷ ks, t)
begun_from f k ks t h [] next more rest e ne ni = absurd (ne refl)
begun_from f k ks t h (b ∷ bs) next more rest e ne ni =
    let same_f : f ≡ b = cc in
    let tail : k ∷ ks ≡ bs ++ next ∷ more = cc in
    rw (← same_f) (h (bs ++ rest) ∙ keyword_tail k ks t bs next more rest tail)

-- `integer` does so from `in` on, since `i` alone is an operand
integer_begun : BegunScans (codes "integer", Integer)
unfolding tokens_from
integer_begun [] next more rest e ne ni = absurd (ne refl)
integer_begun (b ∷ []) next more rest e ne ni = let same : b ≡ 105 = cc in absurd (ni (ap (λ x. x ∷ []) same))
integer_begun (b ∷ c ∷ bs) next more rest e ne ni =
    let same_b : b ≡ 105 = cc in
    let same_c : c ≡ 110 = cc in
    let tail : 116 ∷ 101 ∷ 103 ∷ 101 ∷ 114 ∷ [] ≡ bs ++ next ∷ more = cc in
    rw (same_b, same_c) (keyword_tail 116 (101 ∷ 103 ∷ 101 ∷ 114 ∷ []) Integer bs next more rest tail)

-- every keyword does so
begun_scan : AllByRecursion BegunScans keywords
unfolding tokens_from
begun_scan = (
  begun_from 97 110 (100 ∷ []) And (λ rest. refl),
  (
    begun_from 111 114 [] Or (λ rest. refl),
    (
      begun_from 33 61 [] (Operator NotEq) (λ rest. refl),
      (
        begun_from 100 101 (99 ∷ 105 ∷ 109 ∷ 97 ∷ 108 ∷ []) Decimal (λ rest. refl),
        (
          begun_from 0xe2 0x80 (0xa6 ∷ []) Ellipsis (λ rest. refl),
          (integer_begun, tt),
        ),
      ),
    ),
  ),
)

-- the bytes of a begun keyword lead the scan to the bytes that are expected
begun_leads : (begun : List ℕ) (next : ℕ) (rest : List ℕ) (h : IsBegun begun next)
    → tokens_of (begun ++ rest) ≡ tokens_from (in_keyword next h.more h.word.1) rest
begun_leads begun next rest h =
    All-contains BegunScans keywords h.word (All-from_recursion BegunScans keywords begun_scan) h.is_keyword begun next
    h.more rest h.spelling h.nonempty h.not_i

-- a keyword that a wrong byte breaks off is one Junk, together with that byte
broken_scans : (begun : List ℕ) (next b : ℕ) (rest : List ℕ) → IsBegun begun next → b ≢ next
    → tokens_of ((begun ++ b ∷ []) ++ rest) ≡ Junk ∷ tokens_of rest
unfolding tokens_from
broken_scans begun next b rest h differs =
    ap tokens_of (append_assoc begun (b ∷ []) rest)
    ∙ begun_leads begun next (b ∷ rest) h
    ∙ rw (no_eq b next differs) refl

-- a keyword that the end of the text cuts off is one Junk
cut_off_scans : (begun : List ℕ) (next : ℕ) → IsBegun begun next → tokens_of (begun ++ []) ≡ Junk ∷ []
unfolding tokens_from
cut_off_scans begun next h = begun_leads begun next [] h

-- ---- numbers

-- an ASCII digit passes the test of digits
pub digit_yes : (b : ℕ) → IsAsciiDigit b → is_ascii_digit b ≡ true
digit_yes b h = grind (arith, nat_tests)

-- any other byte fails it
pub digit_no : (b : ℕ) → (IsAsciiDigit b → ⊥) → is_ascii_digit b ≡ false
digit_no b h =
    ⊎_elim
    (λ low. ⊎_elim (λ high. absurd (h (low.1, high.1))) (λ high. rw (low.0, high.0) refl) (leb_tells b 57))
    (λ low. rw low.0 refl)
    (leb_tells 48 b)

-- digits that no digit follows end an open number: one token, of the number followed by these
-- digits
number_scans : (n : ℕ) (digits rest : List ℕ) → AllByRecursion IsAsciiDigit digits
    → IfSome (first rest) (λ d. ¬ (IsAsciiDigit d))
    → tokens_from (in_number n) (digits ++ rest) ≡ number_token (digits_value_after 10 n digits) ∷ tokens_of rest
unfolding tokens_from
number_scans n [] [] all whole = refl
number_scans n [] (b ∷ bs) all whole = rw (digit_no b whole) refl
number_scans n (d ∷ ds) rest all whole = rw (digit_yes d all.0) (number_scans (n * 10 + digit_value d) ds rest all.1 whole)

-- a digit other than `0` opens a number, between two pieces
pub begin_digit : (d : ℕ) → IsAsciiDigit d → d ≢ 48 → begin_piece d ≡ ([], in_number (0 * 10 + digit_value d))
begin_digit d h k = let low : 49 ≤ d = omega arith in rw (no_eq d 32 (omega arith), le-leb 49 d low, le-leb d 57 h.1) refl

-- a run of digits is one token, Number or Junk by its value
pub run_scans : (digits rest : List ℕ) → IsDigitRun digits rest
    → tokens_of (digits ++ rest) ≡ number_token (digits_value 10 digits) ∷ tokens_of rest
unfolding tokens_from
run_scans [] rest h = absurd (h.nonempty refl)
run_scans (d ∷ ds) rest h =
    let all = recursion_from_All IsAsciiDigit (d ∷ ds) h.all_digits in
    rw (begin_digit d all.0 h.begins) (number_scans (0 * 10 + digit_value d) ds rest all.1 h.whole)

-- ---- other bytes

-- a byte that is in no row of the table is Junk
none_found : (b : ℕ) (ss : List (ℕ × Start)) → AllByRecursion (λ (s : ℕ × Start). b ≢ s.0) ss → look_up b ss ≡ (Junk ∷ [], between)
none_found b [] h = refl
none_found b (s ∷ ss) h = rw (no_eq b s.0 h.0) (none_found b ss h.1)

-- the word begins with the byte
abbrev pub begins : ℕ → Word → Bool
begins b ([], t) = false
begins b (c ∷ cs, t) = nat_eq c b

-- a word that begins with the byte, by that test, has it as its first
pub begins_first : (b : ℕ) (word : Word) → begins b word ≡ true → first word.0 ≡ Some b
begins_first b ([], t) e = absurd (false≢true e)
begins_first b (c ∷ cs, t) e = ap Some (eqb-true c b e)

-- a fact of every x passes on to a y that some x is like
carried_to : {A B : Type 0} (P : A → Type 0) (Q : B → Type 0) (like : A → B → Bool)
    → ((x : A) (y : B) → like x y ≡ true → P x → Q y) → (xs : List A) (y : B) → AllByRecursion P xs
    → list_any (λ x. like x y) xs ≡ true → Q y
carried_to P Q like carry [] y h e = absurd (false≢true e)
carried_to P Q like carry (x ∷ xs) y h e =
    elim (or_cases (like x y) (list_any (λ z. like z y) xs) e) [
      | inl here ↦ carry x y here h.0
      | inr later ↦ carried_to P Q like carry xs y h.1 later
    ]

-- and so to all y, if some x is like each of them
pub carried : {A B : Type 0} (P : A → Type 0) (Q : B → Type 0) (like : A → B → Bool)
    → ((x : A) (y : B) → like x y ≡ true → P x → Q y) → (xs : List A) (ys : List B) → AllByRecursion P xs
    → list_all (λ y. list_any (λ x. like x y) xs) ys ≡ true → AllByRecursion Q ys
carried P Q like carry xs [] h e = tt
carried P Q like carry xs (y ∷ ys) h e =
    let both = and_parts (list_any (λ x. like x y) xs) (list_all (λ z. list_any (λ x. like x z) xs) ys) e in
    (carried_to P Q like carry xs y h both.0, carried P Q like carry xs ys h both.1)

-- a byte that begins no mark and no keyword is in no row of the table of first bytes, since each
-- row begins one
no_start : (b : ℕ) → All (λ (word : Word). first word.0 ≢ Some b) (marks ++ keywords)
    → AllByRecursion (λ (s : ℕ × Start). b ≢ s.0) piece_starts
no_start b h =
    carried (λ (word : Word). first word.0 ≢ Some b) (λ (s : ℕ × Start). b ≢ s.0) (λ word s. begins s.0 word)
    (λ word s e other same. other (begins_first s.0 word e ∙ ap Some (sym same)))
    (marks ++ keywords) piece_starts (recursion_from_All (λ (word : Word). first word.0 ≢ Some b) (marks ++ keywords) h) refl

-- a byte that begins no piece is Junk, between two pieces
pub begin_unknown : (b : ℕ) → BeginsNone b → begin_piece b ≡ (Junk ∷ [], between)
begin_unknown b h =
    let none = none_found b piece_starts (no_start b h.2) in
    ⊎_elim
    (λ low. ⊎_elim
    (λ high. absurd (h.1 (omega arith, high.1)))
    (λ high. rw (no_eq b 32 h.0, low.0, high.0) none)
    (leb_tells b 57))
    (λ low. rw (no_eq b 32 h.0, low.0) none)
    (leb_tells 49 b)

-- such a byte in front of a text gives Junk, and then the tokens of the rest
unknown_scans : (b : ℕ) (rest : List ℕ) → BeginsNone b → tokens_of (b ∷ rest) ≡ Junk ∷ tokens_of rest
unfolding tokens_from
unknown_scans b rest h = rw (begin_unknown b h) refl

-- ---- pieces and cuts

-- a piece in front of a rest gives its token, and then the tokens of the rest
pub piece_scans : (piece rest : List ℕ) (token : Option Token) → IsPiece piece rest token
    → tokens_of (piece ++ rest) ≡ cons_option token (tokens_of rest)
unfolding tokens_from
piece_scans piece rest token (space e t) = rw (e, t) refl
piece_scans piece rest token (mark t c f k) =
    All-contains MarkScans marks (piece, t) (All-from_recursion MarkScans marks marks_scan) c rest f ∙ rw k refl
piece_scans piece rest token (keyword t c k) =
    All-contains KeywordScans keywords (piece, t) (All-from_recursion KeywordScans keywords keywords_scan) c rest
    ∙ rw k refl
piece_scans piece rest token (number r small k) = run_scans piece rest r ∙ rw (k, le-leb _ _ small) refl
piece_scans piece rest token (unknown b e n k) = rw (e, k) (unknown_scans b rest n)
piece_scans piece rest token (too_large r large k) = run_scans piece rest r ∙ rw (k, lt-leb _ _ large) refl
piece_scans piece rest token (broken begun next b e g d k) = rw (e, k) (broken_scans begun next b rest g d)
piece_scans piece rest token (cut_off next g e k) = rw (e, k) (cut_off_scans piece next g)

-- the tokens of a cut are the scan's, so all cuts of a text have the same tokens
pub cut_scans : (text : List ℕ) (pieces : List Piece) → IsCut text pieces → tokens_of text ≡ filter_map (λ p. p.1) pieces
unfolding tokens_from
cut_scans text [] h = rw h refl
cut_scans text (p ∷ ps) h = ap tokens_of h.1 ∙ piece_scans p.0 h.0 p.1 h.2 ∙ ap (cons_option p.1) (cut_scans h.0 ps h.3)
