-- How an operand text is divided into its parts.
use Rattle.std.proofs.Common.{◌≡◌, ◌≢◌, ◌⊎◌, ℕ, zero, suc, ◌+◌, ◌-◌, ◌*◌, ◌^◌, ◌<◌, ◌≤◌, inl, inr, true, false, Option, Some, None}
use Rattle.std.proofs.Common.{List, [], ◌∷◌, ◌++◌, refl, sym, ◌∙◌, ap, subst, length, map, arith, lit<}
use Rattle.std.proofs.Common.{cond, ltb, nat_eq, get_or, drop, length-append}
use Rattle.std.proofs.lemmas.Bool.{cases_eq, cases_lt, lt-ltb, le-ltb, le-leb, eq-eqb}
use Rattle.std.proofs.lemmas.Bool.Decides.{leb_tells, eqb_tells}
use Rattle.std.proofs.lemmas.List.{length-map, append-nil}
use Rattle.std.proofs.Math.Nat.{pow-suc}
use Rattle.std.specs.Char.{is_ascii_digit, IsAsciiDigit}
use Rattle.fixed_decimal.specs.Digits.{value_of, AreDigits, text_of}
use Rattle.plural_operands.specs.Operands.{Operands, HasFraction}
use Rattle.plural_operands.specs.OperandText.{WritesCount, WritesFraction, WritesExponent, WritesUnsignedOperands}
use Rattle.plural_operands.specs.OperandText.{WritesOperands, FailsOperands}
use Rattle.plural_operands.specs.Inner.OperandReader.{IsReading, BeginsWithNoDigit, HasCount, HasWord, WritesBehindPoint, without_sign}
use Rattle.plural_operands.specs.declared.operands.error.OperandsError.TheVariants.{Invalid}
use Rattle.plural_operands.proofs.numbers.Numbers.{power_above}

-- ---- digits and their bytes

abbrev digits_of : List ℕ → List ℕ
digits_of bytes = map (λ b. b - 48) bytes

digits_of-text_of : (ds : List ℕ) → digits_of (text_of ds) ≡ ds
digits_of-text_of [] = refl
digits_of-text_of (d ∷ ds) = let e : 48 + d - 48 ≡ d = omega arith in ap (λ n. n ∷ digits_of (text_of ds)) e
    ∙ ap (λ l. d ∷ l) (digits_of-text_of ds)

-- a text is that of one list of digits
pub same_digits : (xs ys : List ℕ) → text_of xs ≡ text_of ys → xs ≡ ys
same_digits xs ys e = sym (digits_of-text_of xs) ∙ ap digits_of e ∙ digits_of-text_of ys

length-text_of : (ds : List ℕ) → length (text_of ds) ≡ length ds
length-text_of ds = length-map ds (λ d. 48 + d)

digit_yes : (b : ℕ) → IsAsciiDigit b → is_ascii_digit b ≡ true
digit_yes b h = rw (le-leb 48 b h.0, le-leb b 57 h.1) refl

digit_no : (b : ℕ) → ¬ (IsAsciiDigit b) → is_ascii_digit b ≡ false
digit_no b h =
    elim (leb_tells 48 b) [
      | inl low ↦ elim (leb_tells b 57) [
        | inl high ↦ absurd (h (low.1, high.1))
        | inr high ↦ rw (low.0, high.0) refl
      ]
      | inr low ↦ rw low.0 refl
    ]

-- the byte of a digit is one
written_digit : (d : ℕ) → d < 10 → IsAsciiDigit (48 + d)
written_digit d h = (omega arith, omega arith)

-- ---- all digits at the front

-- the number that the digits at the front make of a number, if 64 bits hold it, and the rest
abbrev pub scanned : ℕ → List ℕ → Option (ℕ × List ℕ)
scanned n [] = Some (n, [])
scanned n (b ∷ bytes) =
    cond (is_ascii_digit b) (cond (ltb (n * 10 + (b - 48)) (2 ^ 64)) (scanned (n * 10 + (b - 48)) bytes) None) (Some (n, b ∷ bytes))

-- it ends where no digit follows
pub scan_stops : (n : ℕ) (rest : List ℕ) → BeginsWithNoDigit rest → scanned n rest ≡ Some (n, rest)
scan_stops n [] h = refl
scan_stops n (b ∷ bytes) h = rw (digit_no b h) refl

pub no_digit_at_end : (rest : List ℕ) → length rest < 1 → BeginsWithNoDigit rest
no_digit_at_end [] h = tt
no_digit_at_end (b ∷ bytes) h = absurd (omega (arith, h))

pub no_digit_first : (rest : List ℕ) → false ≡ is_ascii_digit (get_or rest 0 0) → BeginsWithNoDigit rest
no_digit_first [] e = tt
no_digit_first (b ∷ bytes) e = λ (h : IsAsciiDigit b). let yes : is_ascii_digit b ≡ true = digit_yes b h in absurd cc

-- a digit that 64 bits hold is taken
scan_goes_on : (n b m : ℕ) (bytes : List ℕ) → IsAsciiDigit b → m ≡ n * 10 + (b - 48) → m < 2 ^ 64 → scanned n (b ∷ bytes) ≡ scanned m bytes
scan_goes_on n b m bytes h e below = rw (digit_yes b h, sym e, lt-ltb m (2 ^ 64) below) refl

-- a digit that they don't hold ends it
scan_overflows : (n b : ℕ) (bytes : List ℕ) → IsAsciiDigit b → 2 ^ 64 ≤ n * 10 + (b - 48) → scanned n (b ∷ bytes) ≡ None
scan_overflows n b bytes h above = rw (digit_yes b h, le-ltb (n * 10 + (b - 48)) (2 ^ 64) above) refl

pub scan_overflows_at : (n : ℕ) (rest : List ℕ) → 1 ≤ length rest → IsAsciiDigit (get_or rest 0 0)
    → 2 ^ 64 ≤ n * 10 + (get_or rest 0 0 - 48) → scanned n rest ≡ None
scan_overflows_at n [] some h above = absurd (omega (arith, some))
scan_overflows_at n (b ∷ bytes) some h above = scan_overflows n b bytes h above

-- a number with a digit, and then with others
one_more : (n d p q v : ℕ) → q ≡ p * 10 → n * q + (d * p + v) ≡ (n * 10 + d) * p + v
one_more n d p q v e = rw e (omega arith)

-- a number isn't above one that it is the front of
front_below : (x p v m : ℕ) → 0 < p → m ≡ x * p + v → x ≤ m
front_below x zero v m h e = absurd (omega arith)
front_below x (suc p) v m h e = omega (arith, e)

-- the digits that are written are those that are scanned
scans_digits : (ds rest : List ℕ) (n m : ℕ) → AreDigits ds → BeginsWithNoDigit rest → m ≡ n * 10 ^ length ds + value_of ds
    → m < 2 ^ 64 → scanned n (text_of ds ++ rest) ≡ Some (m, rest)
scans_digits [] rest n m h w e below = scan_stops n rest w ∙ ap (λ k. Some (k, rest)) (omega (arith, e))
scans_digits (d ∷ ds) rest n m h w e below =
    let total : m ≡ (n * 10 + d) * 10 ^ length ds + value_of ds = e
    ∙ one_more n d (10 ^ length ds) _ (value_of ds) (pow-suc 10 (length ds)) in
    let front : n * 10 + d ≤ m = front_below (n * 10 + d) (10 ^ length ds) (value_of ds) m (power_above (length ds)) total in
    scan_goes_on n (48 + d) (n * 10 + d) (text_of ds ++ rest) (written_digit d h.0) (omega arith) (omega (arith, front, below))
    ∙ scans_digits ds rest (n * 10 + d) m h.1 w total below

-- what a scan has gone over
record Scans (n : ℕ) (text : List ℕ) (m : ℕ) (rest : List ℕ) : Type 0 where
  ds : List ℕ
  digits : AreDigits ds
  spelled : text ≡ text_of ds ++ rest
  value : m ≡ n * 10 ^ length ds + value_of ds
  whole : BeginsWithNoDigit rest
  below : m < 2 ^ 64

-- a number and a rest
abbrev pub Left : Type 0
Left = ℕ × List ℕ

abbrev pub left : ℕ → List ℕ → Option Left
left n rest = Some (n, rest)

abbrev number_in : Option Left → ℕ
number_in None = 0
number_in (Some l) = l.0

abbrev rest_in : Option Left → List ℕ
rest_in None = []
rest_in (Some l) = l.1

both_parts : (n m : ℕ) (xs ys : List ℕ) → left n xs ≡ left m ys → (n ≡ m) × (xs ≡ ys)
both_parts n m xs ys e = (ap (λ l. number_in l) e, ap (λ l. rest_in l) e)

ends_here : (n m : ℕ) (text rest : List ℕ) → n < 2 ^ 64 → BeginsWithNoDigit text → left n text ≡ left m rest → Scans n text m rest
ends_here n m text rest below w e =
    let p : (n ≡ m) × (text ≡ rest) = both_parts n m text rest e in
    record {
      ds = [];
      digits = tt;
      spelled = p.1;
      value = sym p.0 ∙ omega arith;
      whole = subst BeginsWithNoDigit p.1 w;
      below = subst (λ k. k < 2 ^ 64) p.0 below;
    }

scan_tells : (text : List ℕ) (n m : ℕ) (rest : List ℕ) → n < 2 ^ 64 → scanned n text ≡ Some (m, rest) → Scans n text m rest
scan_tells [] n m rest below e = ends_here n m [] rest below tt e
scan_tells (b ∷ bytes) n m rest below e =
    elim (digit_or_not b) [
      | inl digit ↦ elim (cases_lt (n * 10 + (b - 48)) (2 ^ 64)) [
        | inl fits ↦
            let more : Scans (n * 10 + (b - 48)) bytes m rest
            = scan_tells bytes (n * 10 + (b - 48)) m rest fits (sym (scan_goes_on n b (n * 10 + (b - 48)) bytes digit refl fits) ∙ e) in
            let byte : b ≡ 48 + (b - 48) = omega (arith, digit) in
            record {
              ds = (b - 48) ∷ more.ds;
              digits = (omega (arith, digit), more.digits);
              spelled = ap (λ l. b ∷ l) more.spelled ∙ ap (λ c. c ∷ (text_of more.ds ++ rest)) byte;
              value = more.value ∙ sym (one_more n (b - 48) (10 ^ length more.ds) _ (value_of more.ds) (pow-suc 10 (length more.ds)));
              whole = more.whole;
              below = more.below;
            }
        | inr over ↦ let none : scanned n (b ∷ bytes) ≡ None = scan_overflows n b bytes digit over in absurd cc
      ]
      | inr other ↦ ends_here n m (b ∷ bytes) rest below other (sym (scan_stops n (b ∷ bytes) other) ∙ e)
    ]
  where
    digit_or_not : (b : ℕ) → IsAsciiDigit b ⊎ ¬ (IsAsciiDigit b)
    digit_or_not b =
        elim (cases_lt b 48) [
          | inl low ↦ inr (λ (h : IsAsciiDigit b). omega (arith, h.0))
          | inr low ↦ elim (cases_lt 57 b) [
            | inl high ↦ inr (λ (h : IsAsciiDigit b). omega (arith, h.1))
            | inr high ↦ inl (low, high)
          ]
        ]

-- ---- a word

scan_of_word : (text ds rest : List ℕ) → HasWord text ds rest → scanned 0 text ≡ Some (value_of ds, rest)
scan_of_word text ds rest h =
    ap (scanned 0) h.spelled ∙ scans_digits ds rest 0 (value_of ds) h.word.digits h.whole (omega arith) h.word.below

-- what was scanned is a word if it has a digit
pub word_found : (text : List ℕ) (m count : ℕ) (rest : List ℕ) → scanned 0 text ≡ Some (m, rest) → count ≡ length text - length rest
    → count ≢ 0
    → (ds : List ℕ) × HasWord text ds rest × (m ≡ value_of ds) × (count ≡ length ds)
word_found text m count rest e size some =
    let s : Scans 0 text m rest = scan_tells text 0 m rest (lit< tt) e in
    let long : length text ≡ length s.ds + length rest
    = ap length s.spelled ∙ length-append (text_of s.ds) rest ∙ ap (λ n. n + length rest) (length-text_of s.ds) in
    let value : m ≡ value_of s.ds = s.value ∙ omega arith in (
      s.ds,
      record {
        word = record { nonempty = omega arith; digits = s.digits; below = subst (λ k. k < 2 ^ 64) value s.below };
        spelled = s.spelled;
        whole = s.whole;
      },
      value,
      omega arith,
    )

-- a text that doesn't begin with a digit has no word
pub no_word : (text : List ℕ) (m : ℕ) (rest : List ℕ) → scanned 0 text ≡ Some (m, rest) → length text - length rest ≡ 0
    → (ds other : List ℕ) → ¬ (HasWord text ds other)
no_word text m rest e size ds other h =
    let p : (m ≡ value_of ds) × (rest ≡ other) = both_parts m (value_of ds) rest other (sym e ∙ scan_of_word text ds other h) in
    let long : length text ≡ length ds + length other
    = ap length h.spelled ∙ length-append (text_of ds) other ∙ ap (λ n. n + length other) (length-text_of ds) in
    let same : length rest ≡ length other = ap length p.1 in
    let some : 0 < length ds = h.word.nonempty in
    omega arith

-- ... and none if 64 bits don't hold the number
pub no_large_word : (text : List ℕ) → scanned 0 text ≡ None → (ds rest : List ℕ) → ¬ (HasWord text ds rest)
no_large_word text e ds rest h = let some : scanned 0 text ≡ Some (value_of ds, rest) = scan_of_word text ds rest h in absurd cc

pub first_and_rest : (text : List ℕ) (b : ℕ) → 0 < length text → get_or text 0 0 ≡ b → text ≡ b ∷ drop 1 text
first_and_rest [] b h e = absurd (omega (arith, h))
first_and_rest (c ∷ text) b h e = ap (λ d. d ∷ text) e

pub other_head : (a b : ℕ) (xs ys : List ℕ) → a ∷ xs ≡ b ∷ ys → a ≡ b
other_head a b xs ys e = cc

pub same_tail : (a b : ℕ) (xs ys : List ℕ) → a ∷ xs ≡ b ∷ ys → xs ≡ ys
same_tail a b xs ys e = cc

-- a text has one front of digits
one_front : (xs r ys s : List ℕ) → AreDigits xs → AreDigits ys → BeginsWithNoDigit r → BeginsWithNoDigit s
    → text_of xs ++ r ≡ text_of ys ++ s → (xs ≡ ys) × (r ≡ s)
one_front [] r [] s h k p q e = (refl, e)
one_front [] r (y ∷ ys) s h k p q e = absurd (let no : ¬ (IsAsciiDigit (48 + y)) = subst BeginsWithNoDigit e p in no (written_digit y k.0))
one_front (x ∷ xs) r [] s h k p q e =
    absurd (let no : ¬ (IsAsciiDigit (48 + x)) = subst BeginsWithNoDigit (sym e) q in no (written_digit x h.0))
one_front (x ∷ xs) r (y ∷ ys) s h k p q e =
    let first : 48 + x ≡ 48 + y = other_head (48 + x) (48 + y) (text_of xs ++ r) (text_of ys ++ s) e in
    let digit : x ≡ y = omega (arith, first) in
    let more : (xs ≡ ys) × (r ≡ s) = one_front xs r ys s h.1 k.1 p q (same_tail (48 + x) (48 + y) (text_of xs ++ r) (text_of ys ++ s) e) in
    (ap (λ n. n ∷ xs) digit ∙ ap (λ l. y ∷ l) more.0, more.1)

pub one_word : (text xs r ys s : List ℕ) → HasWord text xs r → HasWord text ys s → (xs ≡ ys) × (r ≡ s)
one_word text xs r ys s h k = one_front xs r ys s h.word.digits k.word.digits h.whole k.whole (sym h.spelled ∙ k.spelled)

-- ---- a sign

with_sign : (sign : ℕ) (bytes : List ℕ) → without_sign sign (sign ∷ bytes) ≡ bytes
with_sign sign bytes = rw (eq-eqb sign sign refl) refl

other_byte : (a b : ℕ) → a ≢ b → nat_eq a b ≡ false
other_byte a b h = elim (eqb_tells a b) [ inl p ↦ absurd (h p.1) | inr p ↦ p.0 ]

with_other : (sign b : ℕ) (bytes : List ℕ) → b ≢ sign → without_sign sign (b ∷ bytes) ≡ b ∷ bytes
with_other sign b bytes other = rw (other_byte b sign other) refl

-- the text has the sign or hasn't
sign_or_not : (sign : ℕ) (text : List ℕ) → (text ≡ sign ∷ without_sign sign text) ⊎ (without_sign sign text ≡ text)
sign_or_not sign [] = inr refl
sign_or_not sign (b ∷ bytes) =
    elim (cases_eq b sign) [
      | inl same ↦ inl (ap (λ c. c ∷ bytes) same
          ∙ ap (λ l. sign ∷ l) (sym (ap (λ c. without_sign sign (c ∷ bytes)) same ∙ with_sign sign bytes)))
      | inr other ↦ inr (with_other sign b bytes other)
    ]

-- ---- a count

-- the digits of a word are no sign
digits_without : (sign : ℕ) (ds rest : List ℕ) → sign < 48 → 0 < length ds → without_sign sign (text_of ds ++ rest) ≡ text_of ds ++ rest
digits_without sign [] rest low some = absurd (omega arith)
digits_without sign (d ∷ ds) rest low some = with_other sign (48 + d) (text_of ds ++ rest) (λ e. omega (arith, e))

pub count_of_word : (text ds rest : List ℕ) → HasWord (without_sign 43 text) ds rest → HasCount text (value_of ds) rest
count_of_word text ds rest h =
    elim (sign_or_not 43 text) [
      | inl plus ↦ (43 ∷ text_of ds, (ds, h.word, refl, inr refl), plus ∙ ap (λ l. 43 ∷ l) h.spelled, h.whole)
      | inr plain ↦ (text_of ds, (ds, h.word, refl, inl refl), sym plain ∙ h.spelled, h.whole)
    ]

pub word_of_count : (text : List ℕ) (n : ℕ) (rest : List ℕ) → HasCount text n rest
    → (ds : List ℕ) × HasWord (without_sign 43 text) ds rest × (value_of ds ≡ n)
word_of_count text n rest (front, (ds, w, v, inl e), k, whole) =
    let spelled : text ≡ text_of ds ++ rest = k ∙ ap (λ l. l ++ rest) e in
    (ds, record { word = w; spelled = ap (without_sign 43) spelled ∙ digits_without 43 ds rest (lit< tt) w.nonempty; whole = whole }, v)
word_of_count text n rest (front, (ds, w, v, inr e), k, whole) =
    let spelled : text ≡ 43 ∷ (text_of ds ++ rest) = k ∙ ap (λ l. l ++ rest) e in
    (ds, record { word = w; spelled = ap (without_sign 43) spelled ∙ with_sign 43 (text_of ds ++ rest); whole = whole }, v)

pub one_count : (text : List ℕ) (m : ℕ) (r : List ℕ) (n : ℕ) (s : List ℕ) → HasCount text m r → HasCount text n s → (m ≡ n) × (r ≡ s)
one_count text m r n s h k =
    let x : (ds : List ℕ) × HasWord (without_sign 43 text) ds r × (value_of ds ≡ m) = word_of_count text m r h in
    let y : (ds : List ℕ) × HasWord (without_sign 43 text) ds s × (value_of ds ≡ n) = word_of_count text n s k in
    let same : (x.0 ≡ y.0) × (r ≡ s) = one_word (without_sign 43 text) x.0 r y.0 s x.1 y.1 in
    (sym x.2 ∙ ap value_of same.0 ∙ y.2, same.1)

pub no_count : (text : List ℕ) → ((ds rest : List ℕ) → ¬ (HasWord (without_sign 43 text) ds rest)) → (n : ℕ) (rest : List ℕ)
    → ¬ (HasCount text n rest)
no_count text none n rest h = let w : (ds : List ℕ) × HasWord (without_sign 43 text) ds rest × (value_of ds ≡ n) =
    word_of_count text n rest h in none w.0 rest w.1

-- a count after which the text ends
pub whole_count : (text : List ℕ) (n : ℕ) (rest : List ℕ) → rest ≡ [] → HasCount text n rest → WritesCount text n
whole_count text n rest empty (front, w, e, whole) =
    subst (λ (l : List ℕ). WritesCount l n) (sym (e ∙ ap (λ l. front ++ l) empty ∙ append-nil front)) w

pub ending_count : (text : List ℕ) (n : ℕ) → WritesCount text n → HasCount text n []
ending_count text n w = (text, w, sym (append-nil text), tt)

-- ---- an exponent

pub exponent_begins : (rest : List ℕ) (c : ℕ) → WritesExponent rest c → BeginsWithNoDigit rest
exponent_begins rest c (inl h) = subst BeginsWithNoDigit (sym h.0) tt
exponent_begins rest c (inr (more, w, e)) = subst BeginsWithNoDigit (sym e) (λ (h : IsAsciiDigit 101). omega (arith, h.1))

pub no_exponent_of : (text : List ℕ) → text ≢ [] → ((more : List ℕ) → text ≢ 101 ∷ more) → (c : ℕ) → ¬ (WritesExponent text c)
no_exponent_of text some other c (inl h) = some h.0
no_exponent_of text some other c (inr (more, w, e)) = other more e

pub answer_exponent : (text rest : List ℕ) (r : Option ℕ) → text ≡ 101 ∷ rest → IsReading (WritesCount rest) r
    → IsReading (WritesExponent text) r
answer_exponent text rest (Some c) e a = inr (rest, a, e)
answer_exponent text rest None e a = refused
  where
    refused : (c : ℕ) → ¬ (WritesExponent text c)
    refused c (inl h) = let z : 0 ≡ suc (length rest) = ap length (sym h.0 ∙ e) in omega (arith, z)
    refused c (inr (more, w, k)) = a c (subst (λ (l : List ℕ). WritesCount l c) (same_tail 101 101 more rest (sym k ∙ e)) w)

-- ---- after the point

pub word_behind_point : (i : ℕ) (text : List ℕ) (o : Operands) → WritesBehindPoint i text o
    → (ds rest : List ℕ) × HasWord text ds rest × WritesExponent rest o.c
word_behind_point i text o (ds, rest, whole, w, f, x, e) =
    (ds, rest, record { word = w; spelled = e; whole = exponent_begins rest o.c x }, x)

pub no_word_behind_point : (i : ℕ) (text : List ℕ) → ((ds rest : List ℕ) → ¬ (HasWord text ds rest)) → (o : Operands)
    → ¬ (WritesBehindPoint i text o)
no_word_behind_point i text none o h =
    let w : (ds rest : List ℕ) × HasWord text ds rest × WritesExponent rest o.c = word_behind_point i text o h in
    none w.0 w.1 w.2

pub no_exponent_behind_point : (i : ℕ) (text ds rest : List ℕ) → HasWord text ds rest → ((c : ℕ) → ¬ (WritesExponent rest c))
    → (o : Operands) → ¬ (WritesBehindPoint i text o)
no_exponent_behind_point i text ds rest h none o k =
    let w : (ds rest : List ℕ) × HasWord text ds rest × WritesExponent rest o.c = word_behind_point i text o k in
    let same : (w.0 ≡ ds) × (w.1 ≡ rest) = one_word text w.0 w.1 ds rest w.2 h in
    none o.c (subst (λ (l : List ℕ). WritesExponent l o.c) same.1 w.3)

pub behind_point : (i : ℕ) (text ds rest : List ℕ) (o : Operands) → HasWord text ds rest → o.i ≡ i
    → HasFraction o (length ds) (value_of ds) → WritesExponent rest o.c → WritesBehindPoint i text o
behind_point i text ds rest o h whole f x = (ds, rest, whole, h.word, f, x, h.spelled)

-- ---- without a sign

-- the integer, and the rest after it
pub count_of_unsigned : (text : List ℕ) (o : Operands) → WritesUnsignedOperands text o
    → (fraction exponent : List ℕ) × HasCount text o.i (fraction ++ exponent) × WritesFraction fraction o × WritesExponent exponent o.c
count_of_unsigned text o (whole, fraction, exponent, w, inl f, x, e) = (
  fraction,
  exponent,
  (
    whole,
    w,
    e,
    subst BeginsWithNoDigit (ap (λ l. l ++ exponent) (sym f.0)) (exponent_begins exponent o.c x),
  ),
  inl f,
  x,
)
count_of_unsigned text o (whole, fraction, exponent, w, inr (ds, d, e, f), x, k) = (
  fraction,
  exponent,
  (
    whole,
    w,
    k,
    subst BeginsWithNoDigit (ap (λ l. l ++ exponent) (sym e)) (λ (h : IsAsciiDigit 46). omega (arith, h.0)),
  ),
  inr (ds, d, e, f),
  x,
)

pub no_unsigned : (text : List ℕ) → ((n : ℕ) (rest : List ℕ) → ¬ (HasCount text n rest)) → (o : Operands)
    → ¬ (WritesUnsignedOperands text o)
no_unsigned text none o h =
    let parts : (fraction exponent : List ℕ) × HasCount text o.i (fraction ++ exponent) × WritesFraction fraction o
    × WritesExponent exponent o.c
    = count_of_unsigned text o h in
    none o.i (parts.0 ++ parts.1) parts.2

-- the rest after the integer: a point and digits, or no point
pub unsigned_behind : (text : List ℕ) (i : ℕ) (rest : List ℕ) (o : Operands) → HasCount text i rest → WritesUnsignedOperands text o
    → ((more : List ℕ) × (rest ≡ 46 ∷ more) × WritesBehindPoint i more o) ⊎ (WritesExponent rest o.c × HasFraction o 0 0 × (o.i ≡ i))
unsigned_behind text i rest o h k = behind (count_of_unsigned text o k)
  where
    behind : (fraction exponent : List ℕ) × HasCount text o.i (fraction ++ exponent) × WritesFraction fraction o
        × WritesExponent exponent o.c
        → ((more : List ℕ) × (rest ≡ 46 ∷ more) × WritesBehindPoint i more o) ⊎ (WritesExponent rest o.c × HasFraction o 0 0 × (o.i ≡ i))
    behind (fraction, exponent, n, inl f, x) =
        let same : (o.i ≡ i) × (fraction ++ exponent ≡ rest) = one_count text o.i (fraction ++ exponent) i rest n h in
        let tails : exponent ≡ rest = ap (λ l. l ++ exponent) (sym f.0) ∙ same.1 in
        inr (subst (λ (l : List ℕ). WritesExponent l o.c) tails x, f.1, same.0)
    behind (fraction, exponent, n, inr (ds, d, e, f), x) =
        let same : (o.i ≡ i) × (fraction ++ exponent ≡ rest) = one_count text o.i (fraction ++ exponent) i rest n h in
        inl (text_of ds ++ exponent, sym same.1 ∙ ap (λ l. l ++ exponent) e, (ds, exponent, same.0, d, f, x, refl))

-- at a point
pub answer_pointed : (text : List ℕ) (i : ℕ) (rest more : List ℕ) (r : Option Operands) → HasCount text i rest → rest ≡ 46 ∷ more
    → IsReading (WritesBehindPoint i more) r → IsReading (WritesUnsignedOperands text) r
answer_pointed text i rest more (Some o) (front, w, e, whole) k (ds, tail, same, d, f, x, spelled) = (
  front,
  46 ∷ text_of ds,
  tail,
  subst (WritesCount front) (sym same) w,
  inr (ds, d, refl, f),
  x,
  e
      ∙ ap (λ l. front ++ l) (k ∙ ap (λ l. 46 ∷ l) spelled),
)
answer_pointed text i rest more None h k a = refused
  where
    refused : (o : Operands) → ¬ (WritesUnsignedOperands text o)
    refused o u =
        elim (unsigned_behind text i rest o h u) [
          | inl p ↦ a o (subst (λ (l : List ℕ). WritesBehindPoint i l o) (same_tail 46 46 p.0 more (sym p.1 ∙ k)) p.2)
          | inr p ↦ no_exponent_of rest (λ z. let z : 0 ≡ suc (length more) = ap length (sym z ∙ k) in omega (arith, z))
              (λ others z. let z : 101 ≡ 46 = other_head 101 46 others more (sym z ∙ k) in omega (arith, z)) o.c p.0
        ]

-- without one
pub unpointed : (text : List ℕ) (i : ℕ) (rest : List ℕ) (o : Operands) → HasCount text i rest → o.i ≡ i → HasFraction o 0 0
    → WritesExponent rest o.c → WritesUnsignedOperands text o
unpointed text i rest o (front, w, e, whole) same f x = (front, [], rest, subst (WritesCount front) (sym same) w, inl (refl, f), x, e)

pub no_unpointed : (text : List ℕ) (i : ℕ) (rest : List ℕ) → HasCount text i rest → ((more : List ℕ) → rest ≢ 46 ∷ more)
    → ((c : ℕ) → ¬ (WritesExponent rest c)) → (o : Operands) → ¬ (WritesUnsignedOperands text o)
no_unpointed text i rest h other none o u =
    elim (unsigned_behind text i rest o h u) [
      | inl p ↦ other p.0 p.1
      | inr p ↦ none o.c p.0
    ]

-- ---- after a `-`

-- a count has a first byte, and it is no `-`
unsigned_without : (text : List ℕ) (o : Operands) → WritesUnsignedOperands text o → without_sign 45 text ≡ text
unsigned_without text o (whole, fraction, exponent, (ds, w, v, inl e), f, x, k) =
    let spelled : text ≡ text_of ds ++ (fraction ++ exponent) = k ∙ ap (λ l. l ++ (fraction ++ exponent)) e in
    ap (without_sign 45) spelled ∙ digits_without 45 ds (fraction ++ exponent) (lit< tt) w.nonempty ∙ sym spelled
unsigned_without text o (whole, fraction, exponent, (ds, w, v, inr e), f, x, k) =
    let spelled : text ≡ 43 ∷ (text_of ds ++ (fraction ++ exponent)) = k ∙ ap (λ l. l ++ (fraction ++ exponent)) e in
    ap (without_sign 45) spelled ∙ with_other 45 43 (text_of ds ++ (fraction ++ exponent)) (λ z. omega (arith, z)) ∙ sym spelled

-- what a text names is what is named after its `-`
pub named_unsigned : (text : List ℕ) (o : Operands) → WritesOperands text o → WritesUnsignedOperands (without_sign 45 text) o
named_unsigned text o (inl h) = subst (λ (l : List ℕ). WritesUnsignedOperands l o) (sym (unsigned_without text o h)) h
named_unsigned text o (inr (rest, h, e)) =
    subst (λ (l : List ℕ). WritesUnsignedOperands l o) (sym (ap (without_sign 45) e ∙ with_sign 45 rest)) h

pub unsigned_named : (text : List ℕ) (o : Operands) → WritesUnsignedOperands (without_sign 45 text) o → WritesOperands text o
unsigned_named text o h =
    elim (sign_or_not 45 text) [
      | inl minus ↦ inr (without_sign 45 text, h, minus)
      | inr plain ↦ inl (subst (λ (l : List ℕ). WritesUnsignedOperands l o) plain h)
    ]

pub not_named : (text : List ℕ) → text ≢ [] → ((o : Operands) → ¬ (WritesUnsignedOperands (without_sign 45 text) o))
    → FailsOperands text Invalid
not_named text some none = (some, λ o h. none o (named_unsigned text o h))
