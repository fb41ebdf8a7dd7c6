-- What the grammar of samples spells is read, and a fault is returned: the tokens of sections lead
-- the reader of samples past them, and those of a waiting place lead it to a state that refuses
-- what follows. From the grammar to the reader; RuleReadings cites the two last facts, the steps of
-- the parser in samples the step that each kind of token makes.
use Rattle.std.proofs.Common.{◌≡◌, ◌≢◌, ◌<◌, ◌+◌, ◌/◌, ◌%◌, ℕ, zero, suc, Bool, true, false, List, [], ◌∷◌, ◌++◌, Option}
use Rattle.std.proofs.Common.{Some, None, Ok, Err, refl, sym, ap, ◌∙◌, subst, append_assoc, inl, inr, cond, nat_eq, arith}
use Rattle.std.proofs.lemmas.Bool.{true≢false}
use Rattle.std.proofs.lemmas.List.{append-nil}
use Rattle.std.proofs.lemmas.Bool.Decides.{nat_tests}
use Rattle.std.specs.Prelude.{IfSome, IsSome, IsSomeAnd, is_some, ◌||◌}
use Rattle.std.specs.Fmt.{decimal, digits, digits_onto, digit_glyph}
use Rattle.std.specs.List.{AllByRecursion, flat_map, list_any}
use Rattle.plural_operands.specs.declared.operand.Operand.TheVariants.{C}
use Rattle.plural_reference.specs.declared.ast.DecimalValue.{DecimalValue}
use Rattle.plural_reference.specs.declared.ast.SampleRange.{SampleRange}
use Rattle.plural_reference.specs.declared.error.ParseError.{ParseError}
use Rattle.plural_reference.specs.declared.token.Token.{Token}
use Rattle.plural_reference.specs.declared.token.Token.TheVariants.{Operand, Number, Zero, Dot, Comma, At}
use Rattle.plural_reference.specs.declared.token.Token.TheVariants.{Decimal, Integer, Ellipsis, Tilde, E}
use Rattle.plural_reference.specs.Lexer.{first}
use Rattle.plural_reference.specs.Parser.{Separated, value_fault}
use Rattle.plural_reference.specs.Samples.{IsDigits, IsExponentMark, IsSampleType, IsFraction, IsExponent, SampleParts}
use Rattle.plural_reference.specs.Samples.{IsSampleOf, token_text, IsSample, IsUpper, IsSampleRange, IsEllipsis, IsSampleList}
use Rattle.plural_reference.specs.Samples.{Section, AreSections, open_range, last_sample, has_exponent, has_point, Takes}
use Rattle.plural_reference.specs.Samples.{ContinuesSamples, SectionsThen, IsAfterAt, IsBeforeSample, IsAfterComma}
use Rattle.plural_reference.specs.Samples.{IsAfterMark, FaultyInSamples, sample_fault, type_fault, fault_in_samples}
use Rattle.plural_reference.specs.Inner.SampleReading.SampleReader.{Partial, SampleState, after_sections, behind_at, awaits_sample, behind_comma}
use Rattle.plural_reference.specs.Inner.SampleReading.SampleReader.{in_sample, behind_mark, range_of, with_sections, ranges_with, begin_list}
use Rattle.plural_reference.specs.Inner.SampleReading.SampleReader.{SampleOutcome, sample_proceed, run_samples, joins, tilde_move}
use Rattle.plural_reference.specs.Samples as places
use Rattle.plural_reference.proofs.reading.ReaderComplete.{last-push}
use Rattle.plural_reference.proofs.samples.SampleSound.{ReadsSections, open-done, last_sample-range, both_false, left_false, right_false}
use Rattle.plural_reference.proofs.tokens.ScanComplete.{no_eq}
use Rattle.plural_reference.specs.FaultPlaces.{FaultyInSamplesAt}

-- ---- the text of digits has no mark and no point

-- what is found in neither of two texts is not found in both together
pub any-append : (p : ℕ → Bool) (u v : List ℕ) → list_any p u ≡ false → list_any p v ≡ false → list_any p (u ++ v) ≡ false
any-append p [] v h k = k
any-append p (x ∷ u) v h k =
    both_false (p x) (list_any p (u ++ v)) (left_false (p x) (list_any p u) h)
    (any-append p u v (right_false (p x) (list_any p u) h) k)

-- what is found in neither choice of a test is not found in what it chooses
by_cond : (b : Bool) (x y : List ℕ) (p : ℕ → Bool) → list_any p x ≡ false → list_any p y ≡ false → list_any p (cond b x y) ≡ false
by_cond true x y p h k = h
by_cond false x y p h k = k

-- the glyph of the last digit of a number is its byte
glyph : (n : ℕ) → digit_glyph false (n % 10) ≡ 48 + n % 10
glyph n = grind (arith, nat_tests)

-- what isn't a digit is not found among the digits of a number, put before a text without it
onto_none : (p : ℕ → Bool) → ((d : ℕ) → d < 10 → p (48 + d) ≡ false) → (k n : ℕ) (acc : List ℕ) → list_any p acc ≡ false
    → list_any p (digits_onto k 10 false n acc) ≡ false
onto_none p h zero n acc e = e
onto_none p h (suc k) n acc e =
    let here : list_any p (digit_glyph false (n % 10) ∷ acc) ≡ false = both_false _ _ (ap p (glyph n) ∙ h (n % 10) (omega arith)) e in
    by_cond (nat_eq (n / 10) 0) _ _ p here (onto_none p h k (n / 10) (digit_glyph false (n % 10) ∷ acc) here)

-- what isn't a digit is not found in a printed number
decimal_none : (p : ℕ → Bool) → ((d : ℕ) → d < 10 → p (48 + d) ≡ false) → (n : ℕ) → list_any p (decimal n) ≡ false
unfolding digits
decimal_none p h n = onto_none p h 64 n [] refl

-- a digit is neither `e` nor `c`
no_mark : (d : ℕ) → d < 10 → (nat_eq (48 + d) 101 || nat_eq (48 + d) 99) ≡ false
no_mark d h = both_false _ _ (no_eq (48 + d) 101 (λ e. omega arith)) (no_eq (48 + d) 99 (λ e. omega arith))

-- a digit isn't a point
no_point : (d : ℕ) → d < 10 → nat_eq (48 + d) 46 ≡ false
no_point d h = no_eq (48 + d) 46 (λ e. omega arith)

-- the text of a run of digits has no exponent
pub digits_no_mark : (t : Token) → IsDigits t → has_exponent (token_text t) ≡ false
digits_no_mark Zero h = refl
digits_no_mark (Number n) h = decimal_none (λ b. nat_eq b 101 || nat_eq b 99) no_mark n
digits_no_mark _ h = absurd h

-- the text of a run of digits has no point
pub digits_no_point : (t : Token) → IsDigits t → has_point (token_text t) ≡ false
digits_no_point Zero h = refl
digits_no_point (Number n) h = decimal_none (λ b. nat_eq b 46) no_point n
digits_no_point _ h = absurd h

-- ---- digits, fractions and exponents

-- digits join a sample without an exponent
pub digit_run : (p : Partial) (text : DecimalValue) (t : Token) (rest : List Token) → IsDigits t
    → has_exponent text ≡ false
    → run_samples (in_sample p text) (t ∷ rest) ≡ run_samples (in_sample p (text ++ token_text t)) rest
unfolding run_samples
digit_run p text Zero rest d h = rw h refl
digit_run p text (Number n) rest d h = rw h refl
digit_run p text _ rest d h = absurd d

-- so do several runs of digits
digits_run : (p : Partial) (text : DecimalValue) (ts rest : List Token) → AllByRecursion IsDigits ts
    → has_exponent text ≡ false
    → run_samples (in_sample p text) (ts ++ rest) ≡ run_samples (in_sample p (text ++ flat_map token_text ts)) rest
digits_run p text [] rest d h = ap (λ x. run_samples (in_sample p x) rest) (sym (append-nil text))
digits_run p text (t ∷ ts) rest d h =
    digit_run p text t (ts ++ rest) d.0 h
    ∙ digits_run p (text ++ token_text t) ts rest d.1 (any-append _ text (token_text t) h (digits_no_mark t d.0))
    ∙ ap (λ x. run_samples (in_sample p x) rest) (append_assoc text (token_text t) (flat_map token_text ts))

-- the text of several runs of digits has no exponent
all_no_mark : (ts : List Token) → AllByRecursion IsDigits ts → has_exponent (flat_map token_text ts) ≡ false
all_no_mark [] d = refl
all_no_mark (t ∷ ts) d = any-append _ (token_text t) (flat_map token_text ts) (digits_no_mark t d.0) (all_no_mark ts d.1)

-- nor a point
all_no_point : (ts : List Token) → AllByRecursion IsDigits ts → has_point (flat_map token_text ts) ≡ false
all_no_point [] d = refl
all_no_point (t ∷ ts) d = any-append _ (token_text t) (flat_map token_text ts) (digits_no_point t d.0) (all_no_point ts d.1)

-- the text of a fraction has no exponent
fraction_no_mark : (f : List Token) → IsFraction f → has_exponent (flat_map token_text f) ≡ false
fraction_no_mark [] h = refl
fraction_no_mark (Dot ∷ ts) h = all_no_mark ts h
fraction_no_mark (_ ∷ ts) h = absurd h

-- a point joins a sample without an exponent and without a point
pub point_run : (p : Partial) (text : DecimalValue) (rest : List Token) → has_exponent text ≡ false
    → has_point text ≡ false
    → run_samples (in_sample p text) (Dot ∷ rest) ≡ run_samples (in_sample p (text ++ token_text Dot)) rest
unfolding run_samples
point_run p text rest h k = rw (both_false _ _ h k) refl

-- so does a fraction
fraction_run : (p : Partial) (text : DecimalValue) (f rest : List Token) → IsFraction f → has_exponent text ≡ false
    → has_point text ≡ false
    → run_samples (in_sample p text) (f ++ rest) ≡ run_samples (in_sample p (text ++ flat_map token_text f)) rest
fraction_run p text [] rest f h k = ap (λ x. run_samples (in_sample p x) rest) (sym (append-nil text))
fraction_run p text (Dot ∷ ts) rest f h k =
    point_run p text (ts ++ rest) h k
    ∙ digits_run p (text ++ token_text Dot) ts rest f (any-append _ text (token_text Dot) h refl)
    ∙ ap (λ x. run_samples (in_sample p x) rest) (append_assoc text (token_text Dot) (flat_map token_text ts))
fraction_run p text (_ ∷ ts) rest f h k = absurd f

-- a mark after a sample without an exponent leads to the state that expects its digits
pub mark_run : (p : Partial) (text : DecimalValue) (m : Token) (rest : List Token) → IsExponentMark m
    → has_exponent text ≡ false
    → run_samples (in_sample p text) (m ∷ rest) ≡ run_samples (behind_mark p (text ++ token_text m)) rest
unfolding run_samples
mark_run p text E rest m h = rw h refl
mark_run p text (Operand C) rest m h = rw h refl
mark_run p text _ rest m h = absurd m

-- digits after a mark end the sample with its exponent
pub after_mark_run : (p : Partial) (text : DecimalValue) (t : Token) (rest : List Token) → IsDigits t
    → run_samples (behind_mark p text) (t ∷ rest) ≡ run_samples (in_sample p (text ++ token_text t)) rest
unfolding run_samples
after_mark_run p text Zero rest d = refl
after_mark_run p text (Number n) rest d = refl
after_mark_run p text _ rest d = absurd d

-- an exponent joins a sample without one
exponent_run : (p : Partial) (text : DecimalValue) (e rest : List Token) → IsExponent e → has_exponent text ≡ false
    → run_samples (in_sample p text) (e ++ rest) ≡ run_samples (in_sample p (text ++ flat_map token_text e)) rest
exponent_run p text [] rest e h = ap (λ x. run_samples (in_sample p x) rest) (sym (append-nil text))
exponent_run p text (m ∷ []) rest e h = absurd e
exponent_run p text (m ∷ d ∷ []) rest e h =
    mark_run p text m (d ∷ rest) e.0 h ∙ after_mark_run p (text ++ token_text m) d rest e.1
    ∙ ap (λ x. run_samples (in_sample p x) rest)
    (append_assoc text (token_text m) (token_text d)
    ∙ ap (λ x. text ++ (token_text m ++ x)) (sym (append-nil (token_text d))))
exponent_run p text (m ∷ d ∷ g ∷ gs) rest e h = absurd e

-- ---- samples

-- a state where a sample may begin
pub data Starts : SampleState → Partial → Type 0 where
  at_start : (p : Partial) → Starts (awaits_sample p) p
  at_comma : (p : Partial) → Starts (behind_comma p) p

-- digits begin a sample
pub first_digit_run : (s : SampleState) (p : Partial) (t : Token) (rest : List Token) → Starts s p → IsDigits t
    → run_samples s (t ∷ rest) ≡ run_samples (in_sample p (token_text t)) rest
unfolding run_samples
first_digit_run _ _ Zero rest (at_start p) d = refl
first_digit_run _ _ (Number n) rest (at_start p) d = refl
first_digit_run _ _ _ rest (at_start p) d = absurd d
first_digit_run _ _ Zero rest (at_comma p) d = refl
first_digit_run _ _ (Number n) rest (at_comma p) d = refl
first_digit_run _ _ _ rest (at_comma p) d = absurd d

-- a point begins a sample
pub first_point_run : (s : SampleState) (p : Partial) (rest : List Token) → Starts s p
    → run_samples s (Dot ∷ rest) ≡ run_samples (in_sample p (token_text Dot)) rest
unfolding run_samples
first_point_run _ _ rest (at_start p) = refl
first_point_run _ _ rest (at_comma p) = refl

-- a mark begins a sample that is an exponent alone
pub first_mark_run : (s : SampleState) (p : Partial) (m : Token) (rest : List Token) → Starts s p → IsExponentMark m
    → run_samples s (m ∷ rest) ≡ run_samples (behind_mark p (token_text m)) rest
unfolding run_samples
first_mark_run _ _ E rest (at_start p) d = refl
first_mark_run _ _ (Operand C) rest (at_start p) d = refl
first_mark_run _ _ _ rest (at_start p) d = absurd d
first_mark_run _ _ E rest (at_comma p) d = refl
first_mark_run _ _ (Operand C) rest (at_comma p) d = refl
first_mark_run _ _ _ rest (at_comma p) d = absurd d

-- the text of tokens and more tokens is the texts of both
pub flat_map-append : (a b : List Token) → flat_map token_text (a ++ b) ≡ flat_map token_text a ++ flat_map token_text b
flat_map-append [] b = refl
flat_map-append (x ∷ a) b =
    ap (λ l. token_text x ++ l) (flat_map-append a b)
    ∙ sym (append_assoc (token_text x) (flat_map token_text a) (flat_map token_text b))

-- the integer digits and the fraction of a sample lead into it
open_run : (s : SampleState) (p : Partial) (i f rest : List Token) → Starts s p → AllByRecursion IsDigits i
    → IsFraction f → (i ++ f ≢ [])
    → run_samples s ((i ++ f) ++ rest) ≡ run_samples (in_sample p (flat_map token_text (i ++ f))) rest
open_run s p (t ∷ i) f rest st d k n =
    first_digit_run s p t ((i ++ f) ++ rest) st d.0
    ∙ ap (run_samples (in_sample p (token_text t))) (append_assoc i f rest)
    ∙ digits_run p (token_text t) i (f ++ rest) d.1 (digits_no_mark t d.0)
    ∙ fraction_run p (token_text t ++ flat_map token_text i) f rest k
    (any-append _ (token_text t) (flat_map token_text i) (digits_no_mark t d.0) (all_no_mark i d.1))
    (any-append _ (token_text t) (flat_map token_text i) (digits_no_point t d.0) (all_no_point i d.1))
    ∙ ap (λ x. run_samples (in_sample p x) rest)
    (append_assoc (token_text t) (flat_map token_text i) (flat_map token_text f)
    ∙ ap (λ l. token_text t ++ l) (sym (flat_map-append i f)))
open_run s p [] (Dot ∷ ts) rest st d k n = first_point_run s p (ts ++ rest) st ∙ digits_run p (token_text Dot) ts rest k refl
open_run s p [] [] rest st d k n = absurd (n refl)
open_run s p [] (_ ∷ ts) rest st d k n = absurd k

-- so do these and an exponent, if there is one
with_exponent : (s : SampleState) (p : Partial) (i f e rest : List Token) → Starts s p → AllByRecursion IsDigits i
    → IsFraction f → IsExponent e → (i ++ f ≢ [])
    → run_samples s ((i ++ f ++ e) ++ rest) ≡ run_samples (in_sample p (flat_map token_text (i ++ f ++ e))) rest
with_exponent s p i f e rest st d k g n =
    ap (run_samples s) (append_assoc (i ++ f) e rest)
    ∙ open_run s p i f (e ++ rest) st d k n
    ∙ exponent_run p (flat_map token_text (i ++ f)) e rest g
    (ap has_exponent (flat_map-append i f)
    ∙ any-append _ (flat_map token_text i) (flat_map token_text f) (all_no_mark i d) (fraction_no_mark f k))
    ∙ ap (λ x. run_samples (in_sample p x) rest) (sym (flat_map-append (i ++ f) e))

-- so do the three parts of a sample, if one of them isn't empty
parts_run : (s : SampleState) (p : Partial) (i f e rest : List Token) → Starts s p → AllByRecursion IsDigits i
    → IsFraction f → IsExponent e → (i ++ f ++ e ≢ [])
    → run_samples s ((i ++ f ++ e) ++ rest) ≡ run_samples (in_sample p (flat_map token_text (i ++ f ++ e))) rest
parts_run s p [] [] [] rest st d k g n = absurd (n refl)
parts_run s p [] [] (m ∷ []) rest st d k g n = absurd g
parts_run s p [] [] (m ∷ x ∷ []) rest st d k g n =
    first_mark_run s p m (x ∷ rest) st g.0 ∙ after_mark_run p (token_text m) x rest g.1
    ∙ ap (λ l. run_samples (in_sample p (token_text m ++ l)) rest) (sym (append-nil (token_text x)))
parts_run s p [] [] (m ∷ x ∷ y ∷ ys) rest st d k g n = absurd g
parts_run s p (t ∷ i) f e rest st d k g n = with_exponent s p (t ∷ i) f e rest st d k g (λ x. cc)
parts_run s p [] (t ∷ ts) e rest st d k g n = with_exponent s p [] (t ∷ ts) e rest st d k g (λ x. cc)

-- the tokens of a sample lead into it, with its text
sample_run : (s : SampleState) (p : Partial) (y : List Token) (text : DecimalValue) (rest : List Token) → Starts s p
    → IsSample y text → run_samples s (y ++ rest) ≡ run_samples (in_sample p text) rest
sample_run s p y text rest st h =
    let w = h.1.0 in
    ap (λ l. run_samples s (l ++ rest)) w
    ∙ parts_run s p h.0.integer h.0.fraction h.0.exponent rest st h.1.1 h.1.2 h.1.3 (λ e. h.1.4 (w ∙ e))
    ∙ ap (λ x. run_samples (in_sample p x) rest) (ap (flat_map token_text) (sym w) ∙ sym h.2)

-- ---- ranges

-- Tilde after a single sample leads to the upper one
pub tilde_run : (p : Partial) (text : DecimalValue) (rest : List Token) → p.lower ≡ None
    → run_samples (in_sample p text) (Tilde ∷ rest) ≡ run_samples (awaits_sample (record p { lower = Some text })) rest
unfolding run_samples
tilde_run p text rest h = rw h refl

-- a comma completes the range, and leads to the state after the comma
pub comma_run : (p : Partial) (text : DecimalValue) (rest : List Token)
    → run_samples (in_sample p text) (Comma ∷ rest)
    ≡ run_samples (behind_comma (record p { ranges = ranges_with p text; lower = None })) rest
unfolding run_samples
comma_run p text rest = refl

-- tokens lead from a state to the last sample of ranges
record LeadsToSample (from : SampleState) (tokens : List Token) (sections : List Section) (type : Token)
    (ranges : List SampleRange) : Type 0 where
  partial : Partial
  text : DecimalValue
  run_is : (rest : List Token) → run_samples from (tokens ++ rest) ≡ run_samples (in_sample partial text) rest
  sections_are : partial.sections ≡ sections
  type_is : partial.type ≡ type
  ranges_are : ranges_with partial text ≡ ranges

-- the tokens of a range lead to its last sample
range_leads : (s : SampleState) (p : Partial) (tokens : List Token) (lower : DecimalValue) (upper : Option DecimalValue)
    → Starts s p → p.lower ≡ None → IsSampleRange tokens (record { lower_val = lower; upper_val = upper })
    → LeadsToSample s tokens p.sections p.type (p.ranges ++ (record { lower_val = lower; upper_val = upper }) ∷ [])
range_leads s p tokens lower None st n h = record {
  partial = p;
  text = lower;
  run_is = λ rest.
      ap (λ l. run_samples s (l ++ rest)) (h.2 ∙ ap (λ l. h.0 ++ l) h.4 ∙ append-nil h.0)
      ∙ sample_run s p h.0 lower rest st h.3;
  sections_are = refl;
  type_is = refl;
  ranges_are = ap (λ o. p.ranges ++ (range_of o lower) ∷ []) n;
}
range_leads s p tokens lower (Some upper) st n h = record {
  partial = record p { lower = Some lower };
  text = upper;
  run_is = λ rest.
      ap (run_samples s) (ap (λ l. l ++ rest) (h.2 ∙ ap (λ l. h.0 ++ l) h.4.1) ∙ append_assoc h.0 (Tilde ∷ h.4.0) rest)
      ∙ sample_run s p h.0 lower (Tilde ∷ (h.4.0 ++ rest)) st h.3
      ∙ tilde_run p lower (h.4.0 ++ rest) n
      ∙ sample_run (awaits_sample (record p { lower = Some lower })) (record p { lower = Some lower }) h.4.0 upper rest
      (at_start (record p { lower = Some lower })) h.4.2;
  sections_are = refl;
  type_is = refl;
  ranges_are = refl;
}

-- ranges with commas between them lead to the last sample of the last one
ranges_lead : (s : SampleState) (p : Partial) (tokens : List Token) (rs : List SampleRange) → Starts s p
    → p.lower ≡ None → Separated Comma IsSampleRange tokens rs
    → LeadsToSample s tokens p.sections p.type (p.ranges ++ rs)
ranges_lead s p tokens [] st n h = absurd h
ranges_lead s p tokens (r ∷ []) st n h = range_leads s p tokens r.lower_val r.upper_val st n h
ranges_lead s p tokens (r ∷ x ∷ xs) st n h =
    let one = range_leads s p h.0 r.lower_val r.upper_val st n h.3 in
    let next : Partial = record { sections = p.sections; type = p.type; ranges = p.ranges ++ r ∷ []; lower = None } in
    let more = ranges_lead (behind_comma next) next h.1 (x ∷ xs) (at_comma next) refl h.4 in
    record {
      partial = more.partial;
      text = more.text;
      run_is = λ rest.
          ap (run_samples s) (ap (λ l. l ++ rest) h.2 ∙ append_assoc h.0 (Comma ∷ h.1) rest)
          ∙ one.run_is (Comma ∷ (h.1 ++ rest))
          ∙ comma_run one.partial one.text (h.1 ++ rest)
          ∙ ap (λ (q : Partial). run_samples (behind_comma q) (h.1 ++ rest))
          (λ i. record {
            sections = one.sections_are i;
            type = one.type_is i;
            ranges = one.ranges_are i;
            lower = None;
          })
          ∙ more.run_is rest;
      sections_are = more.sections_are;
      type_is = more.type_is;
      ranges_are = more.ranges_are ∙ append_assoc p.ranges (r ∷ []) (x ∷ xs);
    }

-- ---- lists and sections

-- the state after whole sections
data Closes : SampleState → List Section → Type 0 where
  closed : (ss : List Section) → open_range ss ≡ None → Closes (after_sections ss) ss
  in_last : (p : Partial) (text : DecimalValue) (ss : List Section) → with_sections p (ranges_with p text) false ≡ ss
      → Closes (in_sample p text) ss

-- tokens lead from a state to one after the sections
record LeadsToEnd (from : SampleState) (tokens : List Token) (ss : List Section) : Type 0 where
  state : SampleState
  run_is : (rest : List Token) → run_samples from (tokens ++ rest) ≡ run_samples state rest
  closes : Closes state ss

-- an ellipsis after a comma completes the list
pub ellipsis_run : (p : Partial) (rest : List Token)
    → run_samples (behind_comma p) (Ellipsis ∷ rest) ≡ run_samples (after_sections (with_sections p p.ranges true)) rest
unfolding run_samples
ellipsis_run p rest = refl

-- after a list with an ellipsis no range is open
open-ellipsis : (ss : List Section) (t : Token) (rs : List SampleRange)
    → open_range (ss ++ (record { type = t; list = record { sample_ranges = rs; ellipsis = true } }) ∷ []) ≡ None
open-ellipsis ss t rs = rw last-push refl

-- the tokens of a list lead to the state after its section
list_leads : (sections : List Section) (type : Token) (tokens : List Token) (ranges : List SampleRange) (more : Bool)
    → IsSampleList tokens (record { sample_ranges = ranges; ellipsis = more })
    → LeadsToEnd (awaits_sample (begin_list sections type)) tokens
    (sections ++ (record { type = type; list = record { sample_ranges = ranges; ellipsis = more } }) ∷ [])
list_leads sections type tokens ranges false h =
    let l = ranges_lead (awaits_sample (begin_list sections type)) (begin_list sections type) h.0 ranges
    (at_start (begin_list sections type)) refl h.3 in
    record {
      state = in_sample l.partial l.text;
      run_is = λ rest.
          ap (λ x. run_samples (awaits_sample (begin_list sections type)) (x ++ rest))
          (h.2 ∙ ap (λ x. h.0 ++ x) h.4 ∙ append-nil h.0)
          ∙ l.run_is rest;
      closes =
          in_last l.partial l.text _
          (λ i. l.sections_are i
          ++ (record { type = l.type_is i; list = record { sample_ranges = l.ranges_are i; ellipsis = false } })
          ∷ []);
    }
list_leads sections type tokens ranges true h =
    let l = ranges_lead (awaits_sample (begin_list sections type)) (begin_list sections type) h.0 ranges
    (at_start (begin_list sections type)) refl h.3 in
    record {
      state = after_sections (sections ++ (record { type = type; list = record { sample_ranges = ranges; ellipsis = true } }) ∷ []);
      run_is = λ rest.
          ap (run_samples (awaits_sample (begin_list sections type)))
          (ap (λ x. x ++ rest) (h.2 ∙ ap (λ x. h.0 ++ x) h.4) ∙ append_assoc h.0 (Comma ∷ Ellipsis ∷ []) rest)
          ∙ l.run_is (Comma ∷ Ellipsis ∷ rest)
          ∙ comma_run l.partial l.text (Ellipsis ∷ rest)
          ∙ ellipsis_run (record l.partial { ranges = ranges_with l.partial l.text; lower = None }) rest
          ∙ ap (λ (x : List Section). run_samples (after_sections x) rest)
          (λ i. l.sections_are i
          ++ (record { type = l.type_is i; list = record { sample_ranges = l.ranges_are i; ellipsis = true } })
          ∷ []);
      closes = closed _ (open-ellipsis sections type ranges);
    }

-- At after whole sections leads to the state that expects a type
at_run : (s : SampleState) (ss : List Section) (rest : List Token) → Closes s ss
    → run_samples s (At ∷ rest) ≡ run_samples (behind_at ss) rest
unfolding run_samples
at_run _ _ rest (closed ss h) = refl
at_run _ _ rest (in_last p text ss h) = ap (λ x. run_samples (behind_at x) rest) h

-- a type leads to the first sample of its list
pub type_run : (ss : List Section) (t : Token) (rest : List Token) → IsSampleType t
    → run_samples (behind_at ss) (t ∷ rest) ≡ run_samples (awaits_sample (begin_list ss t)) rest
unfolding run_samples
type_run ss Integer rest h = refl
type_run ss Decimal rest h = refl
type_run ss _ rest h = absurd h

-- the tokens of sections lead to the state after them, from a state after others
sections_lead : (s : SampleState) (done : List Section) (tokens : List Token) (ss : List Section) → Closes s done
    → AreSections tokens ss → LeadsToEnd s tokens (done ++ ss)
sections_lead s done tokens [] c h =
    record {
      state = s;
      run_is = λ rest. ap (λ l. run_samples s (l ++ rest)) h;
      closes = subst (Closes s) (sym (append-nil done)) c;
    }
sections_lead s done tokens (x ∷ xs) c h =
    let one = list_leads done x.type h.0 x.list.sample_ranges x.list.ellipsis h.4 in
    let more = sections_lead one.state (done ++ x ∷ []) h.1 xs one.closes h.5 in
    record {
      state = more.state;
      run_is = λ rest.
          ap (λ l. run_samples s (l ++ rest)) h.2
          ∙ at_run s done (x.type ∷ ((h.0 ++ h.1) ++ rest)) c
          ∙ type_run done x.type ((h.0 ++ h.1) ++ rest) h.3
          ∙ ap (run_samples (awaits_sample (begin_list done x.type))) (append_assoc h.0 h.1 rest)
          ∙ one.run_is (h.1 ++ rest)
          ∙ more.run_is rest;
      closes = subst (Closes more.state) (append_assoc done (x ∷ []) xs) more.closes;
    }

-- the tokens of sections lead from the beginning to the state after them
all_lead : (tokens : List Token) (ss : List Section) → AreSections tokens ss → LeadsToEnd (after_sections []) tokens ss
all_lead tokens ss h = sections_lead (after_sections []) [] tokens ss (closed [] refl) h

-- ---- the end of the reading

-- what the last sample takes continues the samples
takes_on : (p : Partial) (text : DecimalValue) (P : DecimalValue → Type 0) → P text
    → IsSomeAnd (open_range (with_sections p (ranges_with p text) false)) (λ r. P (last_sample r))
takes_on p text P k = rw open-done (subst P (sym (last_sample-range p.lower text)) k)

-- a token that would join a full sample ends the samples
pub joins_ends : (full : Bool) (next : SampleState) (p : Partial) (text : DecimalValue) (ts : List Token)
    (k : SampleState → SampleOutcome)
    → (full ≡ false → ⊥)
    → sample_proceed (joins full next p text) ts k ≡ Ok (with_sections p (ranges_with p text) false, ts)
joins_ends true next p text ts k h = refl
joins_ends false next p text ts k h = absurd (h refl)

-- Tilde after an upper sample ends the samples
pub tilde_ends : (lower : Option DecimalValue) (p : Partial) (text : DecimalValue) (ts : List Token)
    (k : SampleState → SampleOutcome)
    → (lower ≡ None → ⊥)
    → sample_proceed (tilde_move lower p text) ts k ≡ Ok (with_sections p (ranges_with p text) false, ts)
tilde_ends None p text ts k h = absurd (h refl)
tilde_ends (Some lower) p text ts k h = refl

-- what doesn't continue the samples ends them in their last sample
last_ends : (p : Partial) (text : DecimalValue) (rest : List Token)
    → IfSome (first rest) (λ t. ¬ (ContinuesSamples (with_sections p (ranges_with p text) false) t))
    → run_samples (in_sample p text) rest ≡ Ok (with_sections p (ranges_with p text) false, rest)
unfolding run_samples
last_ends p text [] h = refl
last_ends p text (At ∷ ts) h = absurd (h tt)
last_ends p text (Comma ∷ ts) h = absurd (h (ap is_some (open-done p text)))
last_ends p text (Tilde ∷ ts) h =
    tilde_ends p.lower p text (Tilde ∷ ts) _
    (λ e. h (rw open-done (subst (λ o. (range_of o text).upper_val ≡ None) (sym e) refl)))
last_ends p text (Zero ∷ ts) h =
    joins_ends (has_exponent text) _ p text (Zero ∷ ts) _ (λ e. h (takes_on p text (λ x. Takes x Zero) (e, inl tt)))
last_ends p text (Number n ∷ ts) h =
    joins_ends (has_exponent text) _ p text (Number n ∷ ts) _
    (λ e. h (takes_on p text (λ x. Takes x (Number n)) (e, inl tt)))
last_ends p text (Dot ∷ ts) h =
    joins_ends (has_exponent text || has_point text) _ p text (Dot ∷ ts) _
    (λ e. h (takes_on p text (λ x. Takes x Dot) (left_false _ _ e, right_false _ _ e)))
last_ends p text (E ∷ ts) h = joins_ends (has_exponent text) _ p text (E ∷ ts) _ (λ e. h (takes_on p text (λ x. Takes x E) (e, inr tt)))
last_ends p text (Operand C ∷ ts) h =
    joins_ends (has_exponent text) _ p text (Operand C ∷ ts) _
    (λ e. h (takes_on p text (λ x. Takes x (Operand C)) (e, inr tt)))
last_ends p text (_ ∷ ts) h = refl

-- what doesn't continue the samples ends them after an ellipsis, or after no section
closed_ends : (ss : List Section) (rest : List Token) → IfSome (first rest) (λ t. ¬ (ContinuesSamples ss t))
    → run_samples (after_sections ss) rest ≡ Ok (ss, rest)
unfolding run_samples
closed_ends ss [] h = refl
closed_ends ss (At ∷ ts) h = absurd (h tt)
closed_ends ss (_ ∷ ts) h = refl

-- what doesn't continue the samples ends them after whole sections
state_ends : (s : SampleState) (ss : List Section) (rest : List Token) → Closes s ss
    → IfSome (first rest) (λ t. ¬ (ContinuesSamples ss t)) → run_samples s rest ≡ Ok (ss, rest)
state_ends _ _ rest (closed ss h) n = closed_ends ss rest n
state_ends _ _ rest (in_last p text ss h) n =
    last_ends p text rest (subst (λ x. IfSome (first rest) (λ t. ¬ (ContinuesSamples x t))) (sym h) n)
    ∙ ap (λ x. Ok (x, rest)) h

-- what the grammar of samples reads is returned
pub reads_samples_run : (tokens : List Token) (ss : List Section) (rest : List Token) → ReadsSections tokens ss rest
    → run_samples (after_sections []) tokens ≡ Ok (ss, rest)
reads_samples_run tokens ss rest h =
    let to = all_lead h.0 ss h.2 in
    ap (run_samples (after_sections [])) h.1 ∙ to.run_is rest ∙ state_ends to.state ss rest to.closes h.3

-- ---- faults

-- if a type is expected, the fault of what follows is returned
pub type_stop : (ss : List Section) (rest : List Token) (kind : ParseError) → type_fault (first rest) ≡ Some kind
    → run_samples (behind_at ss) rest ≡ Err (kind, rest)
unfolding run_samples
type_stop ss [] kind h = cc
type_stop ss (Integer ∷ ts) kind h = cc
type_stop ss (Decimal ∷ ts) kind h = cc
type_stop ss (_ ∷ ts) kind h = cc

-- if a sample is expected, the fault of what follows is returned
pub sample_stop : (p : Partial) (rest : List Token) (kind : ParseError) → sample_fault (first rest) ≡ Some kind
    → run_samples (awaits_sample p) rest ≡ Err (kind, rest)
unfolding run_samples
sample_stop p [] kind h = cc
sample_stop p (Zero ∷ ts) kind h = cc
sample_stop p (Number n ∷ ts) kind h = cc
sample_stop p (Dot ∷ ts) kind h = cc
sample_stop p (E ∷ ts) kind h = cc
sample_stop p (Operand C ∷ ts) kind h = cc
sample_stop p (_ ∷ ts) kind h = cc

-- after a comma, the fault of what follows is returned
comma_stop : (p : Partial) (rest : List Token) (kind : ParseError)
    → fault_in_samples places.after_comma (first rest) ≡ Some kind → run_samples (behind_comma p) rest ≡ Err (kind, rest)
unfolding run_samples
comma_stop p [] kind h = cc
comma_stop p (Ellipsis ∷ ts) kind h = cc
comma_stop p (Zero ∷ ts) kind h = cc
comma_stop p (Number n ∷ ts) kind h = cc
comma_stop p (Dot ∷ ts) kind h = cc
comma_stop p (E ∷ ts) kind h = cc
comma_stop p (Operand C ∷ ts) kind h = cc
comma_stop p (_ ∷ ts) kind h = cc

-- after a mark, the fault of what follows is returned
pub mark_stop : (p : Partial) (text : DecimalValue) (rest : List Token) (kind : ParseError)
    → value_fault (first rest) ≡ Some kind → run_samples (behind_mark p text) rest ≡ Err (kind, rest)
unfolding run_samples
mark_stop p text [] kind h = cc
mark_stop p text (Zero ∷ ts) kind h = cc
mark_stop p text (Number n ∷ ts) kind h = cc
mark_stop p text (_ ∷ ts) kind h = cc

-- these tokens lead from the beginning to the state
abbrev Arrives : List Token → SampleState → Type 0
Arrives q s = (rest : List Token) → run_samples (after_sections []) (q ++ rest) ≡ run_samples s rest

-- what leads to a state leads on with one more token
then_one : (spelled q : List Token) (t : Token) (s next : SampleState) → q ≡ spelled ++ t ∷ [] → Arrives spelled s
    → ((rest : List Token) → run_samples s (t ∷ rest) ≡ run_samples next rest) → Arrives q next
then_one spelled q t s next e h k rest =
    ap (run_samples (after_sections [])) (ap (λ l. l ++ rest) e ∙ append_assoc spelled (t ∷ []) rest)
    ∙ h (t ∷ rest)
    ∙ k rest

-- sections and At lead to the state that expects a type
arrives_at : (q : List Token) → IsAfterAt q → (ss : List Section) × Arrives q (behind_at ss)
arrives_at q (spelled, ss, e, h, u) =
    let to = all_lead spelled ss h in
    (ss, then_one spelled q At to.state (behind_at ss) e to.run_is (λ rest. at_run to.state ss rest to.closes))

-- a last range that is open
record OpenEnd (s : SampleState) (ss : List Section) : Type 0 where
  partial : Partial
  text : DecimalValue
  state_is : s ≡ in_sample partial text
  open_is : open_range ss ≡ Some (range_of partial.lower text)

-- whole sections with an open range end in the last sample of that range
open_end : (s : SampleState) (ss : List Section) → Closes s ss → IsSome (open_range ss) → OpenEnd s ss
open_end _ _ (closed ss h) k = absurd (true≢false (sym k ∙ ap is_some h))
open_end _ _ (in_last p text ss h) k =
    record { partial = p; text = text; state_is = refl; open_is = ap open_range (sym h) ∙ open-done p text }

-- if something is said of the open range, there is one
some_open : (o : Option SampleRange) (P : SampleRange → Type 0) → IsSomeAnd o P → IsSome o
some_open None P h = absurd h
some_open (Some r) P h = refl

-- a range without an upper sample has no lower one before its last
lower_is_none : (lower : Option DecimalValue) (text : DecimalValue) → (range_of lower text).upper_val ≡ None → lower ≡ None
lower_is_none None text h = refl
lower_is_none (Some lower) text h = cc

-- what is said of the open range holds of the range that is known to be it
at_open : (ss : List Section) (r : SampleRange) (P : SampleRange → Type 0) → open_range ss ≡ Some r → IsSomeAnd (open_range ss) P → P r
at_open ss r P e k = rw e at k

-- tokens that await a sample lead to such a state
arrives_sample : (q : List Token) → IsBeforeSample q → (p : Partial) × Arrives q (awaits_sample p)
arrives_sample q (inl (type, k, (spelled, ss, e, h, u))) =
    let to = all_lead spelled ss h in (
      begin_list ss type,
      λ rest.
          ap (run_samples (after_sections [])) (ap (λ l. l ++ rest) e ∙ append_assoc spelled (At ∷ type ∷ []) rest)
          ∙ to.run_is (At ∷ type ∷ rest) ∙ at_run to.state ss (type ∷ rest) to.closes ∙ type_run ss type rest k,
    )
arrives_sample q (inr (spelled, ss, e, h, k)) =
    let to = all_lead spelled ss h in
    let o = open_end to.state ss to.closes (some_open (open_range ss) (λ r. r.upper_val ≡ None) k) in (
      record o.partial { lower = Some o.text },
      then_one spelled q Tilde to.state _ e to.run_is
          (λ rest. ap (λ s. run_samples s (Tilde ∷ rest)) o.state_is
          ∙ tilde_run o.partial o.text rest
          (lower_is_none o.partial.lower o.text (at_open ss _ (λ r. r.upper_val ≡ None) o.open_is k))),
    )

-- a list and a comma lead to the state after the comma
arrives_comma : (q : List Token) → IsAfterComma q → (p : Partial) × Arrives q (behind_comma p)
arrives_comma q (spelled, ss, e, h, k) =
    let to = all_lead spelled ss h in
    let o = open_end to.state ss to.closes k in (
      record o.partial { ranges = ranges_with o.partial o.text; lower = None },
      then_one spelled q Comma to.state _ e to.run_is
          (λ rest. ap (λ s. run_samples s (Comma ∷ rest)) o.state_is ∙ comma_run o.partial o.text rest),
    )

-- what is said of the open range says what follows from it
weaker : (o : Option SampleRange) (P Q : SampleRange → Type 0) → ((r : SampleRange) → P r → Q r) → IsSomeAnd o P → IsSomeAnd o Q
weaker None P Q f h = h
weaker (Some r) P Q f h = f r h

-- a mark that continues the samples finds a last sample without an exponent
mark_taken : (ss : List Section) (m : Token) → IsExponentMark m → ContinuesSamples ss m
    → IsSomeAnd (open_range ss) (λ r. has_exponent (last_sample r) ≡ false)
mark_taken ss E h k = weaker (open_range ss) _ _ (λ r x. x.0) k
mark_taken ss (Operand C) h k = weaker (open_range ss) _ _ (λ r x. x.0) k
mark_taken ss _ h k = absurd h

-- tokens that end in a mark lead to the state after it
arrives_mark : (q : List Token) → IsAfterMark q → (p : Partial) × (text : DecimalValue) × Arrives q (behind_mark p text)
arrives_mark q (m, h, inl (before, e, inl w)) =
    let a = arrives_sample before w in
    (a.0, token_text m, then_one before q m _ _ e a.1 (λ rest. first_mark_run _ a.0 m rest (at_start a.0) h))
arrives_mark q (m, h, inl (before, e, inr w)) =
    let a = arrives_comma before w in
    (a.0, token_text m, then_one before q m _ _ e a.1 (λ rest. first_mark_run _ a.0 m rest (at_comma a.0) h))
arrives_mark q (m, h, inr (spelled, ss, e, k, c)) =
    let to = all_lead spelled ss k in
    let taken = mark_taken ss m h c in
    let o = open_end to.state ss to.closes (some_open (open_range ss) _ taken) in
    let free : has_exponent o.text ≡ false =
    subst (λ x. has_exponent x ≡ false) (last_sample-range o.partial.lower o.text)
    (at_open ss _ (λ r. has_exponent (last_sample r) ≡ false) o.open_is taken) in (
      o.partial,
      o.text ++ token_text m,
      then_one spelled q m to.state _ e to.run_is
          (λ rest. ap (λ s. run_samples s (m ∷ rest)) o.state_is ∙ mark_run o.partial o.text m rest h free),
    )

-- after tokens that wait at a place, the fault of the next token at that place is returned
sample_waits_run : (place : places.SamplePlace) (before rest : List Token) (kind : ParseError)
    → places.WaitsInSamples place before → fault_in_samples place (first rest) ≡ Some kind
    → run_samples (after_sections []) (before ++ rest) ≡ Err (kind, rest)
sample_waits_run places.after_at before rest kind w h = let a = arrives_at before w in a.1 rest ∙ type_stop a.0 rest kind h
sample_waits_run places.before_sample before rest kind w h = let a = arrives_sample before w in a.1 rest ∙ sample_stop a.0 rest kind h
sample_waits_run places.after_comma before rest kind w h = let a = arrives_comma before w in a.1 rest ∙ comma_stop a.0 rest kind h
sample_waits_run places.after_mark before rest kind w h = let a = arrives_mark before w in a.2 rest ∙ mark_stop a.0 a.1 rest kind h

-- a fault of the tokens is returned, and what it leaves
pub faulty_samples_run : (tokens : List Token) (kind : ParseError) (rest : List Token) → FaultyInSamplesAt tokens kind rest
    → run_samples (after_sections []) tokens ≡ Err (kind, rest)
faulty_samples_run tokens kind rest h = ap (run_samples (after_sections [])) h.2 ∙ sample_waits_run h.0 h.1 rest kind h.3 h.4
