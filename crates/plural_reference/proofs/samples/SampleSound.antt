-- What the reader of samples returns is what the grammar says: the tokens so far spell the
-- sections, the ranges and the part of a sample that its state holds, so the sections that it ends
-- with are read, and a fault that it stops with is theirs. RuleReadings cites the last lemma,
-- SampleComplete and the steps of the parser in samples some of the others.
use Rattle.std.proofs.Common.{◌≡◌, ◌≢◌, ℕ, Bool, true, false, List, [], ◌∷◌, ◌++◌, Option, Some, None}
use Rattle.std.proofs.Common.{Ok, Err, refl, sym, ap, ◌∙◌, subst, append_assoc, inl, inr, ⊎_elim}
use Rattle.std.proofs.lemmas.Bool.{true≢false}
use Rattle.std.proofs.lemmas.List.{append-nil}
use Rattle.std.specs.Prelude.{IfSome, IsSomeAnd, is_some, ◌⊎◌, ◌||◌}
use Rattle.std.specs.List.{AllByRecursion, flat_map, list_any}
use Rattle.plural_operands.specs.declared.operand.Operand.TheVariants.{C}
use Rattle.plural_reference.specs.declared.ast.DecimalValue.{DecimalValue}
use Rattle.plural_reference.specs.declared.ast.SampleList.{SampleList}
use Rattle.plural_reference.specs.declared.ast.SampleRange.{SampleRange}
use Rattle.plural_reference.specs.declared.error.ParseError.TheVariants.{ExpectedValue}
use Rattle.plural_reference.specs.declared.token.Token.{Token}
use Rattle.plural_reference.specs.declared.token.Token.TheVariants.{Operand, Number, Zero, Dot, Comma, At}
use Rattle.plural_reference.specs.declared.token.Token.TheVariants.{Decimal, Integer, Ellipsis, Tilde, E}
use Rattle.plural_reference.specs.Lexer.{first}
use Rattle.plural_reference.specs.Parser.{Separated}
use Rattle.plural_reference.specs.Samples.{IsDigits, IsExponentMark, IsSampleType, IsFraction, IsExponent, SampleParts}
use Rattle.plural_reference.specs.Samples.{IsSampleOf, token_text, IsSample, IsUpper, IsSampleRange, IsEllipsis}
use Rattle.plural_reference.specs.Samples.{IsSampleList, Section, AreSections, open_range, last_sample, has_exponent}
use Rattle.plural_reference.specs.Samples.{has_point, Takes, ContinuesSamples, SectionsThen, IsAfterAt, IsBeforeSample}
use Rattle.plural_reference.specs.Samples.{IsAfterComma, IsAfterMark, FaultyInSamples, sample_fault}
use Rattle.plural_reference.specs.Inner.SampleReading.SampleReader.{Partial, SampleState, after_sections, behind_at, awaits_sample}
use Rattle.plural_reference.specs.Inner.SampleReading.SampleReader.{behind_comma, in_sample, behind_mark, range_of, with_sections, ranges_with}
use Rattle.plural_reference.specs.Inner.SampleReading.SampleReader.{begin_list, SampleMove, goes, ends, refuses, sample_step, samples_at_end}
use Rattle.plural_reference.specs.Inner.SampleReading.SampleReader.{SampleOutcome, sample_proceed, run_samples, joins, tilde_move, in_move}
use Rattle.plural_reference.specs.Inner.SampleReading.SampleReader.{mark_move, at_move, section_move, comma_move, sample_move}
use Rattle.plural_reference.specs.Samples as places
use Rattle.plural_reference.proofs.reading.ReaderSound.{Terminated, Separated-last, Terminated-push, Terminated-front}
use Rattle.plural_reference.proofs.reading.ReaderComplete.{last-push}
use Rattle.plural_reference.specs.FaultPlaces.{FaultyInSamplesAt}

-- ---- sections

-- sections, and after them At, a type and a list, are sections
AreSections-push : (a : List Token) (ss : List Section) (t : Token) (l : List Token) (list : SampleList)
    → AreSections a ss → IsSampleType t → IsSampleList l list
    → AreSections (a ++ At ∷ t ∷ l) (ss ++ (record { type = t; list = list }) ∷ [])
AreSections-push a [] t l list h k m = (l, [], ap (λ x. x ++ At ∷ t ∷ l) h ∙ ap (λ x. At ∷ t ∷ x) (sym (append-nil l)), k, m, refl)
AreSections-push a (s ∷ ss) t l list h k m = (
  h.0,
  h.1 ++ At ∷ t ∷ l,
  ap (λ x. x ++ At ∷ t ∷ l) h.2 ∙ ap (λ x. At ∷ s.type ∷ x) (append_assoc h.0 h.1 (At ∷ t ∷ l)),
  h.3,
  h.4,
  AreSections-push h.1 ss t l list h.5 k m,
)

-- ---- what the tokens so far spell

-- the lower sample of a range with Tilde after it, or no tokens if there is none
LowerIs : List Token → Option DecimalValue → Type 0
LowerIs tokens None = tokens ≡ []
LowerIs tokens (Some lower) = (x : List Token) × (tokens ≡ x ++ Tilde ∷ []) × IsSample x lower

-- whole sections, At and a type, ranges with Comma after each, and perhaps a lower sample with its
-- Tilde
record SpellsPartial (q : List Token) (p : Partial) : Type 0 where
  section_tokens : List Token
  range_tokens : List Token
  lower_tokens : List Token
  whole : q ≡ section_tokens ++ At ∷ p.type ∷ (range_tokens ++ lower_tokens)
  sections : AreSections section_tokens p.sections
  type : IsSampleType p.type
  ranges : Terminated Comma IsSampleRange range_tokens p.ranges
  lower : LowerIs lower_tokens p.lower

-- a sample ends a range, either after its lower sample or as the only one
range_is : (lower : Option DecimalValue) (l y : List Token) (text : DecimalValue) → LowerIs l lower → IsSample y text
    → IsSampleRange (l ++ y) (range_of lower text)
unfolding LowerIs
range_is None l y text h k = (y, [], ap (λ x. x ++ y) h ∙ sym (append-nil y), k, refl)
range_is (Some lower) l y text h k = (h.0, Tilde ∷ y, ap (λ x. x ++ y) h.1 ∙ append_assoc h.0 (Tilde ∷ []) y, h.2, (y, refl, k))

-- the parts of an open list and what follows them, as one list of tokens
regroup : (a : List Token) (t : Token) (b c d : List Token) → (a ++ At ∷ t ∷ (b ++ c)) ++ d ≡ a ++ At ∷ t ∷ (b ++ (c ++ d))
regroup a t b c d = simp append_assoc

-- a sample that ends its list completes the sections
sections_done : (x y : List Token) (p : Partial) (text : DecimalValue) → SpellsPartial x p → IsSample y text
    → AreSections (x ++ y) (with_sections p (ranges_with p text) false)
sections_done x y p text h k =
    subst (λ l. AreSections l (with_sections p (ranges_with p text) false))
    (sym (ap (λ l. l ++ y) h.whole ∙ regroup h.section_tokens p.type h.range_tokens h.lower_tokens y))
    (AreSections-push h.section_tokens p.sections p.type (h.range_tokens ++ (h.lower_tokens ++ y))
    (record { sample_ranges = ranges_with p text; ellipsis = false }) h.sections h.type (
      h.range_tokens ++ (h.lower_tokens ++ y),
      [],
      sym (append-nil _),
      Separated-last Comma IsSampleRange h.range_tokens (h.lower_tokens ++ y) p.ranges (range_of p.lower text)
          h.ranges (range_is p.lower h.lower_tokens y text h.lower k),
      refl,
    ))

-- the range that a sample ends is the last one, and open
pub open-done : (p : Partial) (text : DecimalValue) → open_range (with_sections p (ranges_with p text) false) ≡ Some (range_of p.lower text)
open-done p text = rw (last-push, last-push) refl

-- the last sample of a range is the one that ends it
pub last_sample-range : (lower : Option DecimalValue) (text : DecimalValue) → last_sample (range_of lower text) ≡ text
last_sample-range None text = refl
last_sample-range (Some lower) text = refl

-- ---- what the text of a sample shows of its tokens

-- if the right side holds, either side does
true_or : (a b : Bool) → b ≡ true → a || b ≡ true
true_or true b h = refl
true_or false b h = h

-- a byte that is found in the right text is found in both
any-right : (p : ℕ → Bool) (u v : List ℕ) → list_any p v ≡ true → list_any p (u ++ v) ≡ true
any-right p [] v h = h
any-right p (x ∷ u) v h = true_or (p x) (list_any p (u ++ v)) (any-right p u v h)

-- a byte that is found in the text of one token is found in the text of all
shows : (p : ℕ → Bool) (a : List Token) (t : Token) (b : List Token)
    → ((rest : List ℕ) → list_any p (token_text t ++ rest) ≡ true)
    → list_any p (flat_map token_text (a ++ t ∷ b)) ≡ true
shows p [] t b h = h (flat_map token_text b)
shows p (x ∷ a) t b h = any-right p (token_text x) (flat_map token_text (a ++ t ∷ b)) (shows p a t b h)

-- the text of tokens with a mark of an exponent among them has an exponent
mark_shows : (a : List Token) (t : Token) (b : List Token) → IsExponentMark t → has_exponent (flat_map token_text (a ++ t ∷ b)) ≡ true
mark_shows a E b h = shows _ a E b (λ rest. refl)
mark_shows a (Operand C) b h = shows _ a (Operand C) b (λ rest. refl)
mark_shows a _ b h = absurd h

-- a sample whose text has no exponent has none
no_exponent : (i f e : List Token) (text : DecimalValue) → IsExponent e → text ≡ flat_map token_text (i ++ f ++ e)
    → has_exponent text ≡ false → e ≡ []
no_exponent i f [] text h t k = refl
no_exponent i f (m ∷ []) text h t k = absurd h
no_exponent i f (m ∷ d ∷ []) text h t k = absurd (true≢false (sym (mark_shows (i ++ f) m (d ∷ []) h.0) ∙ ap has_exponent (sym t) ∙ k))
no_exponent i f (m ∷ d ∷ g ∷ gs) text h t k = absurd h

-- one whose text has no point has no fraction
no_fraction : (i f e : List Token) (text : DecimalValue) → IsFraction f → text ≡ flat_map token_text (i ++ f ++ e)
    → has_point text ≡ false → f ≡ []
no_fraction i [] e text h t k = refl
no_fraction i (Dot ∷ ds) e text h t k =
    absurd
    (true≢false
    (sym
    (ap (λ l. has_point (flat_map token_text l)) (append_assoc i (Dot ∷ ds) e)
    ∙ shows _ i Dot (ds ++ e) (λ rest. refl))
    ∙ ap has_point (sym t)
    ∙ k))
no_fraction i (_ ∷ ds) e text h t k = absurd h

-- the text of tokens with one more is their text and its text
pub flat_map-push : (a : List Token) (t : Token) → flat_map token_text (a ++ t ∷ []) ≡ flat_map token_text a ++ token_text t
flat_map-push [] t = append-nil (token_text t)
flat_map-push (x ∷ a) t =
    ap (λ l. token_text x ++ l) (flat_map-push a t)
    ∙ sym (append_assoc (token_text x) (flat_map token_text a) (token_text t))

-- runs of digits with one more are runs of digits
all_pushed : (a : List Token) (t : Token) → AllByRecursion IsDigits a → IsDigits t → AllByRecursion IsDigits (a ++ t ∷ [])
all_pushed [] t h k = (k, tt)
all_pushed (x ∷ a) t h k = (h.0, all_pushed a t h.1 k)

-- tokens with one more are not empty
push_not_empty : (a : List Token) (t : Token) → a ++ t ∷ [] ≢ []
push_not_empty [] t e = cc
push_not_empty (x ∷ a) t e = cc

-- the parts of a sample that has no exponent
record Open (y : List Token) (text : DecimalValue) : Type 0 where
  integer : List Token
  fraction : List Token
  whole : y ≡ integer ++ fraction
  digits : AllByRecursion IsDigits integer
  is_fraction : IsFraction fraction
  text_is : text ≡ flat_map token_text y

-- a sample whose text has no exponent is such a one
open_sample : (y : List Token) (text : DecimalValue) → IsSample y text → has_exponent text ≡ false → Open y text
open_sample y text h k =
    let s = h.0 in
    let none = no_exponent s.integer s.fraction s.exponent text h.1.3 (h.2 ∙ ap (flat_map token_text) h.1.0) k in
    record {
      integer = s.integer;
      fraction = s.fraction;
      whole = h.1.0 ∙ ap (λ l. s.integer ++ s.fraction ++ l) none ∙ append-nil (s.integer ++ s.fraction);
      digits = h.1.1;
      is_fraction = h.1.2;
      text_is = h.2;
    }

-- no tokens are the beginning of such a sample
empty_open : Open [] []
empty_open = record { integer = []; fraction = []; whole = refl; digits = tt; is_fraction = tt; text_is = refl }

-- digits after an integer, and perhaps a fraction, belong to the last of these
digit_on : (i f y : List Token) (text : DecimalValue) (t : Token) → y ≡ i ++ f → AllByRecursion IsDigits i
    → IsFraction f → IsDigits t → text ≡ flat_map token_text y → IsSample (y ++ t ∷ []) (text ++ token_text t)
digit_on i [] y text t w d f g k = (
  record { integer = i ++ t ∷ []; fraction = []; exponent = [] },
  (
    ap (λ l. l ++ t ∷ []) (w ∙ append-nil i) ∙ sym (append-nil (i ++ t ∷ [])) ∙ sym (append-nil (i ++ t ∷ [] ++ [])),
    all_pushed i t d g,
    tt,
    tt,
    push_not_empty y t,
  ),
  ap (λ l. l ++ token_text t) k ∙ sym (flat_map-push y t),
)
digit_on i (Dot ∷ ds) y text t w d f g k = (
  record { integer = i; fraction = Dot ∷ (ds ++ t ∷ []); exponent = [] },
  (
    ap (λ l. l ++ t ∷ []) w ∙ append_assoc i (Dot ∷ ds) (t ∷ []) ∙ sym (append-nil (i ++ Dot ∷ (ds ++ t ∷ []))),
    d,
    all_pushed ds t f g,
    tt,
    push_not_empty y t,
  ),
  ap (λ l. l ++ token_text t) k ∙ sym (flat_map-push y t),
)
digit_on i (_ ∷ ds) y text t w d f g k = absurd f

-- digits after a sample without an exponent make a longer sample
digit_joins : (y : List Token) (text : DecimalValue) (t : Token) → Open y text → IsDigits t → IsSample (y ++ t ∷ []) (text ++ token_text t)
digit_joins y text t o d = digit_on o.integer o.fraction y text t o.whole o.digits o.is_fraction d o.text_is

-- so does a point, if there is none yet
point_joins : (y : List Token) (text : DecimalValue) → Open y text → has_point text ≡ false
    → IsSample (y ++ Dot ∷ []) (text ++ token_text Dot)
point_joins y text o h =
    let none = no_fraction o.integer o.fraction [] text o.is_fraction
    (o.text_is ∙ ap (flat_map token_text) (o.whole ∙ sym (append-nil (o.integer ++ o.fraction)))) h in (
      record { integer = o.integer; fraction = Dot ∷ []; exponent = [] },
      (
        ap (λ l. l ++ Dot ∷ []) (o.whole ∙ ap (λ l. o.integer ++ l) none ∙ append-nil o.integer)
            ∙ sym (append-nil (o.integer ++ Dot ∷ [])),
        o.digits,
        tt,
        tt,
        push_not_empty y Dot,
      ),
      ap (λ l. l ++ token_text Dot) o.text_is ∙ sym (flat_map-push y Dot),
    )

-- so do a mark and digits
exponent_joins : (y : List Token) (text : DecimalValue) (m d : Token) → Open y text → IsExponentMark m → IsDigits d
    → IsSample ((y ++ m ∷ []) ++ d ∷ []) ((text ++ token_text m) ++ token_text d)
exponent_joins y text m d o g h = (
  record { integer = o.integer; fraction = o.fraction; exponent = m ∷ d ∷ [] },
  (append_assoc y (m ∷ []) (d ∷ []) ∙ ap (λ l. l ++ m ∷ d ∷ []) o.whole, o.digits, o.is_fraction, (g, h), push_not_empty (y ++ m ∷ []) d),
  ap (λ l. (l ++ token_text m) ++ token_text d) o.text_is
      ∙ ap (λ l. l ++ token_text d) (sym (flat_map-push y m))
      ∙ sym (flat_map-push (y ++ m ∷ []) d),
)

-- ---- the states

-- a sample is expected at the start of a range, or after a comma
Awaits : List Token → Type 0
Awaits x = IsBeforeSample x ⊎ IsAfterComma x

-- the tokens end in a sample with this text
record InSample (q : List Token) (p : Partial) (text : DecimalValue) : Type 0 where
  before : List Token
  sample_tokens : List Token
  whole : q ≡ before ++ sample_tokens
  partial : SpellsPartial before p
  sample : IsSample sample_tokens text

-- the tokens end in a sample without an exponent, and then a mark; the text is of both
record BehindMark (q : List Token) (p : Partial) (text : DecimalValue) : Type 0 where
  before : List Token
  sample_tokens : List Token
  mark : Token
  sample_text : DecimalValue
  whole : q ≡ before ++ (sample_tokens ++ mark ∷ [])
  partial : SpellsPartial before p
  open_sample : Open sample_tokens sample_text
  is_mark : IsExponentMark mark
  text_is : text ≡ sample_text ++ token_text mark
  waits : IsAfterMark q

-- the tokens so far lead to the state: they spell what it holds
abbrev SpellsState : List Token → SampleState → Type 0
SpellsState q (after_sections ss) = AreSections q ss × (open_range ss ≡ None)
SpellsState q (behind_at ss) = (x : List Token) × (q ≡ x ++ At ∷ []) × AreSections x ss
SpellsState q (awaits_sample p) = SpellsPartial q p × IsBeforeSample q
SpellsState q (behind_comma p) = SpellsPartial q p × IsAfterComma q × (p.lower ≡ None) × (p.ranges ≢ [])
SpellsState q (in_sample p text) = InSample q p text
SpellsState q (behind_mark p text) = BehindMark q p text

-- the sections are read from the tokens, and the rest is left
abbrev pub ReadsSections : List Token → List Section → List Token → Type 0
ReadsSections tokens ss rest =
    (spelled : List Token) × (tokens ≡ spelled ++ rest) × AreSections spelled ss
    × IfSome (first rest) (λ t. ¬ (ContinuesSamples ss t))

-- what is said of tokens by a result
abbrev pub SaidSamples : List Token → SampleOutcome → Type 0
SaidSamples tokens (Ok (ss, rest)) = ReadsSections tokens ss rest
SaidSamples tokens (Err (kind, rest)) = FaultyInSamplesAt tokens kind rest

-- what is said of a move, if the tokens q lead to a state and the token t follows
abbrev SaidMove : List Token → Token → List Token → SampleMove → Type 0
SaidMove q t ts (goes s) = SpellsState (q ++ t ∷ []) s
SaidMove q t ts (ends ss) = ReadsSections (q ++ t ∷ ts) ss (t ∷ ts)
SaidMove q t ts (refuses kind) = FaultyInSamplesAt (q ++ t ∷ ts) kind (t ∷ ts)

-- what is said of a move at the end of the tokens q
abbrev SaidEnd : List Token → SampleMove → Type 0
SaidEnd q (goes s) = ⊥
SaidEnd q (ends ss) = ReadsSections (q ++ []) ss []
SaidEnd q (refuses kind) = FaultyInSamplesAt (q ++ []) kind []

-- ---- the steps

-- any token but At
abbrev NotAt : Token → Type 0
NotAt At = ⊥
NotAt _ = Unit {0}

-- if no range is open, only At continues the samples
nothing_open : (ss : List Section) (t : Token) → open_range ss ≡ None → NotAt t → ContinuesSamples ss t → ⊥
nothing_open ss At h n k = absurd n
nothing_open ss Comma h n k = absurd (true≢false (sym k ∙ ap is_some h))
nothing_open ss Tilde h n k = rw h at k
nothing_open ss _ h n k = rw h at k

-- after whole sections, At leads on and any other token ends the samples
said_after_sections : (q : List Token) (ss : List Section) (t : Token) (ts : List Token)
    → SpellsState q (after_sections ss) → SaidMove q t ts (section_move ss t)
said_after_sections q ss At ts h = (q, refl, h.0)
said_after_sections q ss t ts h = (q, refl, h.0, λ k. nothing_open ss t h.1 tt k)

-- At and a type begin a list
begun : (q : List Token) (ss : List Section) (t : Token) → IsSampleType t → SpellsState q (behind_at ss)
    → SpellsPartial (q ++ t ∷ []) (begin_list ss t)
unfolding LowerIs
begun q ss t k h = record {
  section_tokens = h.0;
  range_tokens = [];
  lower_tokens = [];
  whole = ap (λ l. l ++ t ∷ []) h.1 ∙ append_assoc h.0 (At ∷ []) (t ∷ []);
  sections = h.2;
  type = k;
  ranges = refl;
  lower = refl;
}

-- after At and a type a sample is expected
begun_waits : (q : List Token) (ss : List Section) (t : Token) → IsSampleType t → SpellsState q (behind_at ss)
    → IsBeforeSample (q ++ t ∷ [])
begun_waits q ss t k h = inl (t, k, (h.0, ss, ap (λ l. l ++ t ∷ []) h.1 ∙ append_assoc h.0 (At ∷ []) (t ∷ []), h.2, tt))

-- after At, the next token is a type, or a fault
said_behind_at : (q : List Token) (ss : List Section) (t : Token) (ts : List Token) → SpellsState q (behind_at ss)
    → SaidMove q t ts (at_move ss t)
said_behind_at q ss Integer ts h = (begun q ss Integer tt h, begun_waits q ss Integer tt h)
said_behind_at q ss Decimal ts h = (begun q ss Decimal tt h, begun_waits q ss Decimal tt h)
said_behind_at q ss _ ts h = (places.after_at, q, refl, (h.0, ss, h.1, h.2, tt), refl)

-- digits begin a sample, if one is expected
first_digit : (q : List Token) (p : Partial) (t : Token) → IsDigits t → SpellsPartial q p → InSample (q ++ t ∷ []) p (token_text t)
first_digit q p t d h = record { before = q; sample_tokens = t ∷ []; whole = refl; partial = h; sample = digit_joins [] [] t empty_open d }

-- a mark begins a sample, if one is expected, and waits for digits
first_mark : (q : List Token) (p : Partial) (t : Token) → IsExponentMark t → SpellsPartial q p → Awaits q
    → BehindMark (q ++ t ∷ []) p (token_text t)
unfolding Awaits
first_mark q p t m h w =
    record {
      before = q;
      sample_tokens = [];
      mark = t;
      sample_text = [];
      whole = refl;
      partial = h;
      open_sample = empty_open;
      is_mark = m;
      text_is = refl;
      waits = (t, m, inl (q, refl, w));
    }

-- if a sample is expected, the next token begins one, or has the given fault
said_start : (q : List Token) (p : Partial) (t : Token) (ts : List Token) → SpellsPartial q p → Awaits q
    → (sample_fault (Some t) ≡ Some ExpectedValue → FaultyInSamplesAt (q ++ t ∷ ts) ExpectedValue (t ∷ ts))
    → SaidMove q t ts (sample_move p t)
said_start q p Zero ts h w bad = first_digit q p Zero tt h
said_start q p (Number n) ts h w bad = first_digit q p (Number n) tt h
said_start q p Dot ts h w bad =
    record {
      before = q;
      sample_tokens = Dot ∷ [];
      whole = refl;
      partial = h;
      sample = point_joins [] [] empty_open refl;
    }
said_start q p E ts h w bad = first_mark q p E tt h w
said_start q p (Operand C) ts h w bad = first_mark q p (Operand C) tt h w
said_start q p _ ts h w bad = bad refl

-- at the start of a range, the next token begins a sample, or is a fault
said_awaits : (q : List Token) (p : Partial) (t : Token) (ts : List Token) → SpellsState q (awaits_sample p)
    → SaidMove q t ts (sample_move p t)
unfolding Awaits
said_awaits q p t ts h = said_start q p t ts h.0 (inl h.1) (λ e. (places.before_sample, q, refl, h.1, e))

-- an ellipsis after ranges, each with its comma, completes the sections
ellipsis_done : (q : List Token) (p : Partial) (x : SampleRange) (xs : List SampleRange) → p.ranges ≡ x ∷ xs
    → SpellsPartial q p → p.lower ≡ None → AreSections (q ++ Ellipsis ∷ []) (with_sections p p.ranges true)
unfolding LowerIs
ellipsis_done q p x xs e h n =
    let f = Terminated-front Comma IsSampleRange h.range_tokens x xs (subst (Terminated Comma IsSampleRange h.range_tokens) e h.ranges) in
    let lower : h.lower_tokens ≡ [] = subst (LowerIs h.lower_tokens) n h.lower in
    subst (λ l. AreSections l (with_sections p p.ranges true))
    (sym
    (ap (λ l. l ++ Ellipsis ∷ []) (h.whole ∙ (λ i. h.section_tokens ++ At ∷ p.type ∷ (f.1 i ++ lower i)))
    ∙ regroup h.section_tokens p.type (f.0 ++ Comma ∷ []) [] (Ellipsis ∷ [])))
    (AreSections-push h.section_tokens p.sections p.type ((f.0 ++ Comma ∷ []) ++ Ellipsis ∷ [])
    (record { sample_ranges = p.ranges; ellipsis = true }) h.sections h.type (
      f.0,
      Comma ∷ Ellipsis ∷ [],
      append_assoc f.0 (Comma ∷ []) (Ellipsis ∷ []),
      subst (Separated Comma IsSampleRange f.0) (sym e) f.2,
      refl,
    ))

-- after an ellipsis no range is open
open-ellipsis : (p : Partial) → open_range (with_sections p p.ranges true) ≡ None
open-ellipsis p = rw last-push refl

-- after ranges and a comma, an ellipsis completes the list
said_ellipsis : (q : List Token) (p : Partial) (rs : List SampleRange) → p.ranges ≡ rs → (rs ≢ []) → SpellsPartial q p
    → p.lower ≡ None → SpellsState (q ++ Ellipsis ∷ []) (after_sections (with_sections p p.ranges true))
said_ellipsis q p [] e n h l = absurd (n refl)
said_ellipsis q p (x ∷ xs) e n h l = (ellipsis_done q p x xs e h l, open-ellipsis p)

-- after a comma, the next token is an ellipsis, begins a sample, or is a fault
said_behind_comma : (q : List Token) (p : Partial) (t : Token) (ts : List Token) → SpellsState q (behind_comma p)
    → SaidMove q t ts (comma_move p t)
unfolding Awaits
said_behind_comma q p Ellipsis ts h = said_ellipsis q p p.ranges refl h.3 h.0 h.2
said_behind_comma q p t ts h = said_start q p t ts h.0 (inr h.1) (λ e. (places.after_comma, q, refl, h.1, e))

-- if both sides are false, no side holds
pub both_false : (a b : Bool) → a ≡ false → b ≡ false → a || b ≡ false
both_false true b h k = absurd (true≢false h)
both_false false b h k = k

-- if no side holds, the left one is false
pub left_false : (a b : Bool) → a || b ≡ false → a ≡ false
left_false true b h = absurd (true≢false h)
left_false false b h = refl

-- if no side holds, the right one is false
pub right_false : (a b : Bool) → a || b ≡ false → b ≡ false
right_false true b h = absurd (true≢false h)
right_false false b h = h

-- what is present isn't absent
some_is_not_none : {A : Type 0} {x : A} → Some x ≡ None → ⊥
some_is_not_none e = cc

-- ranges with one more are not empty
some_ranges : (rs : List SampleRange) (r : SampleRange) → rs ++ r ∷ [] ≢ []
some_ranges [] r e = cc
some_ranges (x ∷ xs) r e = cc

-- the tokens of an open range and a comma, counted among those of the ranges
comma_regroup : (a : List Token) (t : Token) (b c d : List Token)
    → ((a ++ At ∷ t ∷ (b ++ c)) ++ d) ++ Comma ∷ [] ≡ a ++ At ∷ t ∷ ((b ++ ((c ++ d) ++ Comma ∷ [])) ++ [])
comma_regroup a t b c d = simp (append_assoc, append-nil)

-- the tokens of an open sample and Tilde, counted as those of the lower sample
tilde_regroup : (a : List Token) (t : Token) (b d : List Token)
    → ((a ++ At ∷ t ∷ (b ++ [])) ++ d) ++ Tilde ∷ [] ≡ a ++ At ∷ t ∷ (b ++ (d ++ Tilde ∷ []))
tilde_regroup a t b d = simp (append_assoc, append-nil)

-- digits after a mark end the sample with its exponent
exponent_grown : (q : List Token) (p : Partial) (text : DecimalValue) (t : Token) → IsDigits t → BehindMark q p text
    → InSample (q ++ t ∷ []) p (text ++ token_text t)
exponent_grown q p text t d h = record {
  before = h.before;
  sample_tokens = (h.sample_tokens ++ h.mark ∷ []) ++ t ∷ [];
  whole = ap (λ l. l ++ t ∷ []) h.whole ∙ append_assoc h.before (h.sample_tokens ++ h.mark ∷ []) (t ∷ []);
  partial = h.partial;
  sample =
      subst (λ x. IsSample ((h.sample_tokens ++ h.mark ∷ []) ++ t ∷ []) (x ++ token_text t)) (sym h.text_is)
      (exponent_joins h.sample_tokens h.sample_text h.mark t h.open_sample h.is_mark d);
}

-- ---- in a sample

module _ (q : List Token) (p : Partial) (text : DecimalValue) (h : InSample q p text) where
  -- the sample completes the sections
  done : AreSections q (with_sections p (ranges_with p text) false)
  done =
      subst (λ l. AreSections l (with_sections p (ranges_with p text) false)) (sym h.whole)
      (sections_done h.before h.sample_tokens p text h.partial h.sample)

  -- a token that doesn't continue the samples ends them
  ended : (t : Token) (ts : List Token) → (ContinuesSamples (with_sections p (ranges_with p text) false) t → ⊥)
      → ReadsSections (q ++ t ∷ ts) (with_sections p (ranges_with p text) false) (t ∷ ts)
  ended t ts n = (q, refl, done, n)

  -- what is said of the open range is said of the one that the sample ends
  open_here : (P : SampleRange → Type 0) → IsSomeAnd (open_range (with_sections p (ranges_with p text) false)) P → P (range_of p.lower text)
  open_here P k = rw open-done at k

  -- what is said of the last sample of the open range is said of the text
  takes_here : (P : DecimalValue → Type 0)
      → IsSomeAnd (open_range (with_sections p (ranges_with p text) false)) (λ r. P (last_sample r)) → P text
  takes_here P k = subst P (last_sample-range p.lower text) (open_here (λ r. P (last_sample r)) k)

  -- what is said of the range that the sample ends is said of the open one
  from_here : (P : SampleRange → Type 0) → P (range_of p.lower text) → IsSomeAnd (open_range (with_sections p (ranges_with p text) false)) P
  from_here P k = rw open-done k

  -- what is said of the text is said of the last sample of the open range
  taken_here : (P : DecimalValue → Type 0) → P text
      → IsSomeAnd (open_range (with_sections p (ranges_with p text) false)) (λ r. P (last_sample r))
  taken_here P k = from_here (λ r. P (last_sample r)) (subst P (sym (last_sample-range p.lower text)) k)

  -- a token joins the sample, or ends the samples if the sample is full and so can't take it
  said_joins : (full : Bool) (next : SampleState) (t : Token) (ts : List Token)
      → (full ≡ true → ContinuesSamples (with_sections p (ranges_with p text) false) t → ⊥)
      → (full ≡ false → SpellsState (q ++ t ∷ []) next) → SaidMove q t ts (joins full next p text)
  said_joins true next t ts a b = ended t ts (a refl)
  said_joins false next t ts a b = b refl

  -- a token that makes the sample a longer one joins it
  grown : (t : Token) (longer : DecimalValue) → IsSample (h.sample_tokens ++ t ∷ []) longer → InSample (q ++ t ∷ []) p longer
  grown t longer k =
      record {
        before = h.before;
        sample_tokens = h.sample_tokens ++ t ∷ [];
        whole = ap (λ l. l ++ t ∷ []) h.whole ∙ append_assoc h.before h.sample_tokens (t ∷ []);
        partial = h.partial;
        sample = k;
      }

  -- digits join a sample without an exponent
  grown_by_digit : (t : Token) → IsDigits t → has_exponent text ≡ false → InSample (q ++ t ∷ []) p (text ++ token_text t)
  grown_by_digit t d e = grown t (text ++ token_text t) (digit_joins h.sample_tokens text t (open_sample h.sample_tokens text h.sample e) d)

  -- a point joins a sample without an exponent and without a point
  grown_by_point : has_exponent text ≡ false → has_point text ≡ false → InSample (q ++ Dot ∷ []) p (text ++ token_text Dot)
  grown_by_point e f = grown Dot (text ++ token_text Dot) (point_joins h.sample_tokens text (open_sample h.sample_tokens text h.sample e) f)

  -- a mark follows a sample without an exponent
  marked : (t : Token) → IsExponentMark t → has_exponent text ≡ false
      → ContinuesSamples (with_sections p (ranges_with p text) false) t
      → BehindMark (q ++ t ∷ []) p (text ++ token_text t)
  marked t m e k = record {
    before = h.before;
    sample_tokens = h.sample_tokens;
    mark = t;
    sample_text = text;
    whole = ap (λ l. l ++ t ∷ []) h.whole ∙ append_assoc h.before h.sample_tokens (t ∷ []);
    partial = h.partial;
    open_sample = open_sample h.sample_tokens text h.sample e;
    is_mark = m;
    text_is = refl;
    waits = (t, m, inr (q, with_sections p (ranges_with p text) false, refl, done, k));
  }

  -- a comma completes the range, and another is expected
  comma_partial : SpellsPartial (q ++ Comma ∷ []) (record p { ranges = ranges_with p text; lower = None })
  unfolding LowerIs
  comma_partial = record {
    section_tokens = h.partial.section_tokens;
    range_tokens = h.partial.range_tokens ++ ((h.partial.lower_tokens ++ h.sample_tokens) ++ Comma ∷ []);
    lower_tokens = [];
    whole =
        ap (λ l. l ++ Comma ∷ []) (h.whole ∙ ap (λ l. l ++ h.sample_tokens) h.partial.whole)
        ∙ comma_regroup h.partial.section_tokens p.type h.partial.range_tokens h.partial.lower_tokens
        h.sample_tokens;
    sections = h.partial.sections;
    type = h.partial.type;
    ranges =
        Terminated-push Comma IsSampleRange h.partial.range_tokens (h.partial.lower_tokens ++ h.sample_tokens) p.ranges
        (range_of p.lower text) h.partial.ranges
        (range_is p.lower h.partial.lower_tokens h.sample_tokens text h.partial.lower h.sample);
    lower = refl;
  }

  -- Tilde makes the sample a lower one, if there is none yet
  tilde_partial : p.lower ≡ None → SpellsPartial (q ++ Tilde ∷ []) (record p { lower = Some text })
  unfolding LowerIs
  tilde_partial e =
      let none : h.partial.lower_tokens ≡ [] = subst (LowerIs h.partial.lower_tokens) e h.partial.lower in
      record {
        section_tokens = h.partial.section_tokens;
        range_tokens = h.partial.range_tokens;
        lower_tokens = h.sample_tokens ++ Tilde ∷ [];
        whole =
            ap (λ l. l ++ Tilde ∷ [])
            (h.whole
            ∙ ap (λ l. l ++ h.sample_tokens)
            (h.partial.whole
            ∙ ap (λ c. h.partial.section_tokens ++ At ∷ p.type ∷ (h.partial.range_tokens ++ c))
            none))
            ∙ tilde_regroup h.partial.section_tokens p.type h.partial.range_tokens h.sample_tokens;
        sections = h.partial.sections;
        type = h.partial.type;
        ranges = h.partial.ranges;
        lower = (h.sample_tokens, refl, h.sample);
      }

  -- Tilde leads to the upper sample, or ends the samples if the range has one
  said_tilde : (lower : Option DecimalValue) → p.lower ≡ lower → (ts : List Token) → SaidMove q Tilde ts (tilde_move lower p text)
  said_tilde None e ts = (
    tilde_partial e,
    inr (
      q,
      with_sections p (ranges_with p text) false,
      refl,
      done,
      from_here (λ r. r.upper_val ≡ None) (subst (λ o. (range_of o text).upper_val ≡ None) (sym e) refl),
    ),
  )
  said_tilde (Some lower) e ts =
      ended Tilde ts
      (λ k. some_is_not_none
      (subst (λ o. (range_of o text).upper_val ≡ None) e (open_here (λ r. r.upper_val ≡ None) k)))

  -- a full sample takes no token that wants it without an exponent
  full_stops : (t : Token) → (Takes text t → has_exponent text ≡ false)
      → (IsSomeAnd (open_range (with_sections p (ranges_with p text) false)) (λ r. Takes (last_sample r) t))
      → has_exponent text ≡ true → ⊥
  full_stops t f k e = true≢false (sym e ∙ f (takes_here (λ x. Takes x t) k))

  -- in a sample, the next token joins it, leads past it, or ends the samples
  said_in_sample : (t : Token) (ts : List Token) → SaidMove q t ts (in_move p text t)
  said_in_sample Zero ts = said_joins (has_exponent text) _ Zero ts (λ e k. full_stops Zero (λ x. x.0) k e) (λ e. grown_by_digit Zero tt e)
  said_in_sample (Number n) ts =
      said_joins (has_exponent text) _ (Number n) ts (λ e k. full_stops (Number n) (λ x. x.0) k e)
      (λ e. grown_by_digit (Number n) tt e)
  said_in_sample Dot ts =
      said_joins (has_exponent text || has_point text) _ Dot ts
      (λ e k. let x = takes_here (λ x. Takes x Dot) k in true≢false (sym e ∙ both_false _ _ x.0 x.1))
      (λ e. grown_by_point (left_false _ _ e) (right_false _ _ e))
  said_in_sample E ts =
      said_joins (has_exponent text) _ E ts (λ e k. full_stops E (λ x. x.0) k e)
      (λ e. marked E tt e (taken_here (λ x. Takes x E) (e, inr tt)))
  said_in_sample (Operand C) ts =
      said_joins (has_exponent text) _ (Operand C) ts (λ e k. full_stops (Operand C) (λ x. x.0) k e)
      (λ e. marked (Operand C) tt e (taken_here (λ x. Takes x (Operand C)) (e, inr tt)))
  said_in_sample Tilde ts = said_tilde p.lower refl ts
  said_in_sample Comma ts = (
    comma_partial,
    (q, with_sections p (ranges_with p text) false, refl, done, ap is_some (open-done p text)),
    refl,
    some_ranges p.ranges (range_of p.lower text),
  )
  said_in_sample At ts = (q, refl, done)
  said_in_sample t ts = ended t ts (λ k. let x = takes_here (λ x. Takes x t) k in ⊎_elim (λ a. a) (λ a. a) x.1)

-- ---- after a mark

-- after a mark, the next token is digits, or a fault
said_behind_mark : (q : List Token) (p : Partial) (text : DecimalValue) (t : Token) (ts : List Token)
    → SpellsState q (behind_mark p text) → SaidMove q t ts (mark_move p text t)
said_behind_mark q p text Zero ts h = exponent_grown q p text Zero tt h
said_behind_mark q p text (Number n) ts h = exponent_grown q p text (Number n) tt h
said_behind_mark q p text t ts h = (places.after_mark, q, refl, h.waits, refl)

-- ---- all steps

-- whatever the state, the next token leads on, ends the samples or is a fault as the grammar says
said_sample_step : (q : List Token) (s : SampleState) (t : Token) (ts : List Token) → SpellsState q s → SaidMove q t ts (sample_step s t)
said_sample_step q (after_sections ss) t ts h = said_after_sections q ss t ts h
said_sample_step q (behind_at ss) t ts h = said_behind_at q ss t ts h
said_sample_step q (awaits_sample p) t ts h = said_awaits q p t ts h
said_sample_step q (behind_comma p) t ts h = said_behind_comma q p t ts h
said_sample_step q (in_sample p text) t ts h = said_in_sample q p text h t ts
said_sample_step q (behind_mark p text) t ts h = said_behind_mark q p text t ts h

-- whatever the state, the end of the tokens ends the samples or is a fault as the grammar says
said_sample_end : (q : List Token) (s : SampleState) → SpellsState q s → SaidEnd q (samples_at_end s)
said_sample_end q (after_sections ss) h = (q, refl, h.0, tt)
said_sample_end q (behind_at ss) h = (places.after_at, q, refl, (h.0, ss, h.1, h.2, tt), refl)
said_sample_end q (awaits_sample p) h = (places.before_sample, q, refl, h.1, refl)
said_sample_end q (behind_comma p) h = (places.after_comma, q, refl, h.1, refl)
said_sample_end q (in_sample p text) h = (q, refl, done q p text h, tt)
said_sample_end q (behind_mark p text) h = (places.after_mark, q, refl, h.waits, refl)

-- what is said of the move at the end is said of the result
end_said : (q : List Token) (m : SampleMove) → SaidEnd q m → SaidSamples (q ++ []) (sample_proceed m [] (λ _. Err (ExpectedValue, [])))
end_said q (goes s) h = absurd h
end_said q (ends ss) h = h
end_said q (refuses kind) h = h

-- what is said of a move, and of the result from the next state, is said of the result from this
-- one
move_said : (q : List Token) (t : Token) (ts : List Token) (m : SampleMove) → SaidMove q t ts m
    → ((next : SampleState) → SpellsState (q ++ t ∷ []) next → SaidSamples ((q ++ t ∷ []) ++ ts) (run_samples next ts))
    → SaidSamples (q ++ t ∷ ts) (sample_proceed m (t ∷ ts) (λ next. run_samples next ts))
move_said q t ts (goes s) h k = subst (λ l. SaidSamples l (run_samples s ts)) (append_assoc q (t ∷ []) ts) (k s h)
move_said q t ts (ends ss) h k = h
move_said q t ts (refuses kind) h k = h

-- from every state on, what the reader returns is what the grammar says
said_run_samples : (q ts : List Token) (s : SampleState) → SpellsState q s → SaidSamples (q ++ ts) (run_samples s ts)
unfolding run_samples
said_run_samples q [] s h = end_said q (samples_at_end s) (said_sample_end q s h)
said_run_samples q (t ∷ ts) s h =
    move_said q t ts (sample_step s t) (said_sample_step q s t ts h)
    (λ next k. said_run_samples (q ++ t ∷ []) ts next k)

-- what the reader of samples returns is read, or is a fault of the tokens
pub said_samples : (tokens : List Token) → SaidSamples tokens (run_samples (after_sections []) tokens)
said_samples tokens = said_run_samples [] tokens (after_sections []) (refl, refl)
