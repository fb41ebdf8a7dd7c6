-- The bytes of plain samples, and the tokens at their front.
use Rattle.std.proofs.Common.{◌≡◌, ◌≢◌, ◌≤◌, ◌<◌, ◌+◌, ◌-◌, ◌*◌, ◌^◌, ℕ, suc, List, [], ◌∷◌, ◌++◌, Option, Some, None, refl, sym, ap}
use Rattle.std.proofs.Common.{◌∙◌, append_assoc, length, length-append, take, drop, get_or, subst, arith, lit<}
use Rattle.std.proofs.lemmas.List.{append-nil, take_rest}
use Rattle.std.proofs.lemmas.List.Elements.{All-from_recursion}
use Rattle.std.proofs.lemmas.Str.{digit_value_digit}
use Rattle.std.proofs.Math.Nat.{pow-suc, pow-le-pow_right}
use Rattle.std.specs.Prelude.{IfSome}
use Rattle.std.specs.Borrow.{Bor}
use Rattle.std.specs.Char.{IsAsciiDigit, digit_value}
use Rattle.std.specs.List.{AllByRecursion, flat_map}
use Rattle.std.specs.Str.Parse.{digits_value, digits_value_after}
use Rattle.plural_operands.specs.declared.operand.Operand.TheVariants.{C}
use Rattle.plural_reference.specs.declared.token.Token.{Token}
use Rattle.plural_reference.specs.declared.token.Token.TheVariants.{Operand, Number, Dot, Comma, At, Decimal, Integer, Ellipsis, Tilde, E}
use Rattle.plural_reference.specs.Lexer.{first, max_number}
use Rattle.plural_reference.specs.Samples.{IsDigits, IsExponent, token_text}
use Rattle.plural_reference.specs.Inner.Scan.{tokens_of, tokens_from}
use Rattle.plural_reference.specs.Inner.SampleReading.PlainSamples.{HasRun, HasShortRun, Begins, IsRun, IsNumber, IsType}
use Rattle.plural_reference.proofs.tokens.Alone.{point_alone}
use Rattle.plural_reference.proofs.printing.PrintedTokens.{EndsRun, AreDigits, Spells, run_gives}
use Rattle.plural_reference.proofs.printing.PrintedDigits.{Retold, digits_retold}

-- what follows for what is there follows, if there is something
pub if_some_on : (P Q : List ℕ → Type 0) (o : Option (Bor (List ℕ))) → ((x : List ℕ) → P x → Q x) → IfSome o (λ r. P r.now)
    → IfSome o (λ r. Q r.now)
if_some_on P Q None f h = tt
if_some_on P Q (Some r) f h = f r.now h

-- ---- bytes at the front

-- the text has these bytes from a place on
abbrev pub ShowsAt : List ℕ → ℕ → List ℕ → Type 0
ShowsAt [] k text = Unit {0}
ShowsAt (b ∷ bs) k text = (get_or text k 0 ≡ b) × ShowsAt bs (suc k) text

-- and the text without its first byte from the place before
shows_rest : (bs : List ℕ) (k x : ℕ) (text : List ℕ) → ShowsAt bs (suc k) (x ∷ text) → ShowsAt bs k text
shows_rest [] k x text h = tt
shows_rest (b ∷ bs) k x text h = (h.0, shows_rest bs (suc k) x text h.1)

-- bytes that a text has at its front, and the rest
front_is : (front text : List ℕ) → length front ≤ length text → ShowsAt front 0 text → text ≡ front ++ drop (length front) text
front_is [] text within h = refl
front_is (b ∷ bs) [] within h = absurd (omega arith)
front_is (b ∷ bs) (x ∷ xs) within h =
    let more : xs ≡ bs ++ drop (length bs) xs = front_is bs xs (omega arith) (shows_rest bs 0 x xs h.1) in λ i. h.0 i ∷ more i

-- the same, where the rest is spelled as a pattern's
pub split_front : (front text : List ℕ) → length front ≤ length text → ShowsAt front 0 text
    → text ≡ front ++ take (length text - length front) (drop (length front) text)
split_front front text within h = front_is front text within h ∙ ap (λ l. front ++ l) (sym (take_rest text (length front)))

-- ---- the tokens of such bytes

pub integer_front : (rest : List ℕ) → tokens_of (105 ∷ 110 ∷ 116 ∷ 101 ∷ 103 ∷ 101 ∷ 114 ∷ 32 ∷ rest) ≡ Integer ∷ tokens_of rest
unfolding tokens_from
integer_front rest = refl

pub decimal_front : (rest : List ℕ) → tokens_of (100 ∷ 101 ∷ 99 ∷ 105 ∷ 109 ∷ 97 ∷ 108 ∷ 32 ∷ rest) ≡ Decimal ∷ tokens_of rest
unfolding tokens_from
decimal_front rest = refl

pub comma_front : (rest : List ℕ) → tokens_of (44 ∷ 32 ∷ rest) ≡ Comma ∷ tokens_of rest
unfolding tokens_from
comma_front rest = refl

pub tilde_front : (rest : List ℕ) → tokens_of (126 ∷ rest) ≡ Tilde ∷ tokens_of rest
unfolding tokens_from
tilde_front rest = refl

pub at_front : (rest : List ℕ) → tokens_of (32 ∷ 64 ∷ rest) ≡ At ∷ tokens_of rest
unfolding tokens_from
at_front rest = refl

pub ellipsis_front : (rest : List ℕ) → tokens_of (0xe2 ∷ 0x80 ∷ 0xa6 ∷ rest) ≡ Ellipsis ∷ tokens_of rest
unfolding tokens_from
ellipsis_front rest = refl

pub no_bytes : tokens_of [] ≡ []
unfolding tokens_from
no_bytes = refl

-- ---- digits

-- the value of a digit is below ten
digit_below : (d : ℕ) → IsAsciiDigit d → digit_value d < 10
digit_below d h = let value : digit_value d + 48 ≡ d = digit_value_digit d h in omega arith

-- digits after a number of k digits write a number of so many more
value_below : (n k : ℕ) (ds : List ℕ) → AreDigits ds → n < 10 ^ k → digits_value_after 10 n ds < 10 ^ (k + length ds)
value_below n k [] h less = let same : k + 0 ≡ k = omega arith in subst (λ m. n < 10 ^ m) (sym same) less
value_below n k (d ∷ ds) h less =
    let one : digit_value d < 10 = digit_below d h.0 in
    let power : 10 ^ suc k ≡ 10 ^ k * 10 = pow-suc 10 k in
    let more : n * 10 + digit_value d < 10 ^ suc k = omega arith in
    let same : suc k + length ds ≡ k + suc (length ds) = omega arith in
    subst (λ m. digits_value_after 10 (n * 10 + digit_value d) ds < 10 ^ m) same
    (value_below (n * 10 + digit_value d) (suc k) ds h.1 more)

-- at most nine digits write a number that a token holds
few_fit : (ds : List ℕ) → AreDigits ds → length ds ≤ 9 → digits_value 10 ds ≤ max_number
few_fit ds h few =
    let same : 0 + length ds ≡ length ds = omega arith in
    let less : digits_value 10 ds < 10 ^ length ds = subst (λ m. digits_value 10 ds < 10 ^ m) same (value_below 0 0 ds h (omega arith)) in
    let most : 10 ^ length ds ≤ 10 ^ 9 = pow-le-pow_right (lit< tt) few in
    omega arith

-- no digits yet
pub no_run : (text : List ℕ) → (front : List ℕ) × (text ≡ front ++ text) × AreDigits front
no_run text = ([], refl, tt)

-- digits and one more
digits_push : (front : List ℕ) (d : ℕ) → AreDigits front → IsAsciiDigit d → AreDigits (front ++ d ∷ [])
digits_push [] d h k = (k, tt)
digits_push (x ∷ xs) d h k = (h.0, digits_push xs d h.1 k)

-- a run goes on with one more digit
pub run_more : (text rest after : List ℕ) (d : ℕ) → (front : List ℕ) × (text ≡ front ++ rest) × AreDigits front → rest ≡ d ∷ after
    → IsAsciiDigit d → (front : List ℕ) × (text ≡ front ++ after) × AreDigits front
run_more text rest after d (front, e, h) f k =
    (front ++ d ∷ [], e ∙ ap (λ l. front ++ l) f ∙ sym (append_assoc front (d ∷ []) after), digits_push front d h k)

-- a list that isn't empty
not_empty : (xs : List ℕ) → 0 < length xs → xs ≢ []
not_empty xs some e = let none : length xs ≡ 0 = ap length e in omega arith

-- how many digits stand before the rest
pub run_size : (text rest : List ℕ) (h : HasRun text rest) → length text ≡ length h.front + length rest
run_size text rest h = ap length h.spelled ∙ length-append h.front rest

-- a run of 1 to 9 digits
pub short_run : (text rest : List ℕ) (count : ℕ) (h : HasRun text rest) → count ≡ length text - length rest → count ≢ 0 → count < 10
    → HasShortRun text rest
short_run text rest count h is some few =
    let size = run_size text rest h in
    record { run = h; nonempty = not_empty h.front (omega arith); few = omega arith }

-- ---- numbers

-- runs of digits that aren't empty have tokens
runs_not_empty : (ts : List Token) (ds : List ℕ) → flat_map token_text ts ≡ ds → ds ≢ [] → ts ≢ []
runs_not_empty [] ds e some f = some (sym e)
runs_not_empty (t ∷ ts) ds e some f = cc

-- the tokens of a short run
record Tokens (text rest : List ℕ) : Type 0 where
  tokens : List Token
  digits : AllByRecursion IsDigits tokens
  nonempty : tokens ≢ []
  are : tokens_of text ≡ tokens ++ tokens_of rest

run_tokens : (text rest : List ℕ) → HasShortRun text rest → Tokens text rest
run_tokens text rest h =
    let s : Spells EndsRun (Retold (AllByRecursion IsDigits)) h.run.front h.run.front =
    digits_retold h.run.front h.run.digits (few_fit h.run.front h.run.digits h.few) in
    record {
      tokens = s.tokens;
      digits = s.part.0;
      nonempty = runs_not_empty s.tokens h.run.front s.part.1 h.nonempty;
      are = ap tokens_of h.run.spelled ∙ s.scans.gives rest h.run.whole;
    }

-- digits alone are a number
pub whole_number : (text rest : List ℕ) → HasShortRun text rest → Begins IsNumber text rest
whole_number text rest h =
    let t = run_tokens text rest h in
    (t.tokens, (t.tokens, [], sym (append-nil t.tokens), (t.nonempty, t.digits), tt), t.are)

-- digits don't begin with a point
no_point : (text rest : List ℕ) → HasShortRun text rest → first text ≢ Some 46
no_point text rest h e = no_point_in h.run.front rest h.run.digits h.nonempty (sym (ap first h.run.spelled) ∙ e)
  where
    no_point_in : (front rest : List ℕ) → AreDigits front → front ≢ [] → first (front ++ rest) ≢ Some 46
    no_point_in [] rest h some e = some refl
    no_point_in (d ∷ ds) rest h some e = let same : d ≡ 46 = cc in omega (arith, h.0.0)

-- a point between digits
pub number_with_fraction : (text middle after rest : List ℕ) → HasShortRun text middle → middle ≡ 46 ∷ after → HasShortRun after rest
    → Begins IsNumber text rest
number_with_fraction text middle after rest h e k =
    let t = run_tokens text middle h in
    let f = run_tokens after rest k in (
      t.tokens ++ Dot ∷ f.tokens,
      (t.tokens, Dot ∷ f.tokens, refl, (t.nonempty, t.digits), f.digits),
      t.are ∙ ap (λ l. t.tokens ++ tokens_of l) e
          ∙ ap (λ l. t.tokens ++ l) (point_alone 46 after refl (no_point after rest k) ∙ ap (λ l. Dot ∷ l) f.are)
          ∙ sym (append_assoc t.tokens (Dot ∷ f.tokens) (tokens_of rest)),
    )

-- ---- exponents

-- a short run that doesn't begin with 0 is one token
pub one_token : (text rest : List ℕ) → HasShortRun text rest → get_or text 0 0 ≢ 48 → Begins IsRun text rest
one_token text rest h other = one_of h.run.front h.run.digits h.nonempty h.few h.run.spelled
  where
    one_of : (front : List ℕ) → AreDigits front → front ≢ [] → length front ≤ 9 → text ≡ front ++ rest → Begins IsRun text rest
    one_of [] d some few e = absurd (some refl)
    one_of (d ∷ ds) all some few e = (
      Number (digits_value 10 (d ∷ ds)) ∷ [],
      (Number (digits_value 10 (d ∷ ds)), refl, tt),
      ap tokens_of e
          ∙ run_gives (d ∷ ds) rest (record {
            begins = λ z. other (ap (λ l. get_or l 0 0) e ∙ z);
            nonempty = some;
            all_digits = All-from_recursion IsAsciiDigit (d ∷ ds) all;
            whole = h.run.whole;
          }) (few_fit (d ∷ ds) all few),
    )

-- no exponent
pub no_exponent : (text : List ℕ) → Begins IsExponent text text
no_exponent text = ([], tt, refl)

-- `e` and its digits
pub e_exponent : (text digits rest : List ℕ) → text ≡ 101 ∷ digits → Begins IsRun digits rest → Begins IsExponent text rest
unfolding tokens_from
e_exponent text digits rest e (ts, (t, f, d), k) =
    (E ∷ t ∷ [], (tt, d), ap tokens_of e ∙ ap (λ l. E ∷ l) (k ∙ ap (λ l. l ++ tokens_of rest) f))

-- `c` and its digits
pub c_exponent : (text digits rest : List ℕ) → text ≡ 99 ∷ digits → Begins IsRun digits rest → Begins IsExponent text rest
unfolding tokens_from
c_exponent text digits rest e (ts, (t, f, d), k) =
    (Operand C ∷ t ∷ [], (tt, d), ap tokens_of e ∙ ap (λ l. Operand C ∷ l) (k ∙ ap (λ l. l ++ tokens_of rest) f))

-- ---- types

pub integer_type : (text rest : List ℕ) → text ≡ (105 ∷ 110 ∷ 116 ∷ 101 ∷ 103 ∷ 101 ∷ 114 ∷ 32 ∷ []) ++ rest → Begins IsType text rest
integer_type text rest e = (Integer ∷ [], (Integer, refl, tt), ap tokens_of e ∙ integer_front rest)

pub decimal_type : (text rest : List ℕ) → text ≡ (100 ∷ 101 ∷ 99 ∷ 105 ∷ 109 ∷ 97 ∷ 108 ∷ 32 ∷ []) ++ rest → Begins IsType text rest
decimal_type text rest e = (Decimal ∷ [], (Decimal, refl, tt), ap tokens_of e ∙ decimal_front rest)
