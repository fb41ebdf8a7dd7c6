-- The steps of the parser in samples, which are kept or left out: what is stored is what is read,
-- if it is kept.
use Rattle.std.proofs.Common.{◌≡◌, ◌≢◌, ◌∷◌, ◌++◌, ℕ, List, [], Bool, true, false, Option, Some, None, Err, refl, sym, ap, ◌∙◌, subst}
use Rattle.std.proofs.Common.{inl, inr}
use Rattle.std.specs.Prelude.{unwrap_or}
use Rattle.std.specs.Fmt.{decimal}
use Rattle.plural_reference.specs.declared.ast.DecimalValue.{DecimalValue}
use Rattle.plural_reference.specs.declared.ast.SampleList.{SampleList}
use Rattle.plural_reference.specs.declared.ast.SampleRange.{SampleRange}
use Rattle.plural_reference.specs.declared.ast.Samples as samples
use Rattle.plural_reference.specs.declared.error.ParseError.{ParseError}
use Rattle.plural_reference.specs.declared.error.ParseError.TheVariants.{ExpectedSampleType}
use Rattle.plural_reference.specs.declared.error.ReadError.{ReadError}
use Rattle.plural_reference.specs.declared.parser.samples.SampleType.{SampleType}
use Rattle.plural_reference.specs.declared.token.Token.{Token}
use Rattle.plural_reference.specs.declared.token.Token.TheVariants.{Dot, Comma, At, Ellipsis, Tilde}
use Rattle.plural_reference.specs.Lexer.{first}
use Rattle.plural_reference.specs.Reading.{IsFault}
use Rattle.plural_reference.specs.Samples.{IsDigits, IsExponentMark, has_exponent, sample_fault, type_fault, with_list}
use Rattle.plural_reference.specs.Inner.SampleReading.SampleReader.{run_samples, after_sections, IsStored, ReadsStored, type_token}
use Rattle.plural_reference.specs.Inner.SampleReading.SampleReader.{joined_list, TakesText, NoDigits, NoMark, ReadsDigits, ReadsNumber, ReadsExponent}
use Rattle.plural_reference.specs.Inner.SampleReading.SampleReader.{ReadsSample, ReadsRange, ReadsRanges, ReadsSampleList, ReadsLists, ReadsAllSamples}
use Rattle.plural_reference.specs.Inner.SampleReading.SampleReader.{FailsInSample, FailsAtSample, FailsAtRange, FailsAtList}
use Rattle.plural_reference.proofs.reading.ParserSteps.{passes_on}
use Rattle.plural_reference.proofs.samples.SampleParserSteps.{no_digits_yet, more_digits}
use Rattle.plural_reference.proofs.samples.SampleParserSteps.{point_has_no_mark, number_alone, number_with_point}
use Rattle.plural_reference.proofs.samples.SampleParserSteps.{exponent_joins, begun_not_empty, a_sample, range_alone, range_to, no_upper}
use Rattle.plural_reference.proofs.samples.SampleParserSteps.{one_range, more_ranges}
use Rattle.plural_reference.proofs.samples.SampleParserSteps.{range_fault, list_with_ellipsis, list_without_ellipsis}
use Rattle.plural_reference.proofs.samples.SampleParserSteps.{no_lists_yet, more_lists, no_type, list_fault, all_lists}

-- ---- what is kept

-- a text is kept as it is
pub kept_whole : {A : Type 0} (keeps : Bool) (x : A) → IsStored keeps x x
kept_whole true x = refl
kept_whole false x = tt

-- what is equal is kept
pub kept_is : {A : Type 0} (keeps : Bool) (stored read : A) → stored ≡ read → IsStored keeps stored read
kept_is true stored read h = h
kept_is false stored read h = tt

-- what is made of a kept part is kept
kept_part : {A B : Type 0} (keeps : Bool) (f : A → B) (stored read : A) → IsStored keeps stored read → IsStored keeps (f stored) (f read)
kept_part true f stored read h = ap f h
kept_part false f stored read h = tt

-- the same of two parts
kept_parts : {A B C : Type 0} (keeps : Bool) (f : A → B → C) (stored read : A) (stored_too read_too : B)
    → IsStored keeps stored read → IsStored keeps stored_too read_too → IsStored keeps (f stored stored_too) (f read read_too)
kept_parts true f stored read stored_too read_too h k = λ i. f (h i) (k i)
kept_parts false f stored read stored_too read_too h k = tt

-- what is stored in two steps is kept, if both keep it
kept_through : {A : Type 0} (keeps : Bool) (stored middle read : A)
    → IsStored keeps stored middle → IsStored keeps middle read → IsStored keeps stored read
kept_through true stored middle read h k = h ∙ k
kept_through false stored middle read h k = tt

-- a text that one more part joins
kept_joined : (keeps : Bool) (stored before read part : List ℕ)
    → IsStored keeps before read → IsStored keeps stored (before ++ part) → IsStored keeps stored (read ++ part)
kept_joined keeps stored before read part h k =
    kept_through keeps stored (before ++ part) (read ++ part) k (kept_part keeps (λ x. x ++ part) before read h)

-- if samples are kept, what is stored is what is read
pub kept_is_read : {A : Type 0} (Read : List Token → A → List Token → Type 0) (old : List Token) (x : A) (new : List Token)
    → ReadsStored true Read old x new → Read old x new
kept_is_read Read old x new h = subst (λ y. Read old y new) (sym h.1) h.2

-- ---- digits and numbers

-- no digits yet
pub keeps_no_digits : (keeps : Bool) (stored before : List ℕ) (old : List Token)
    → has_exponent before ≡ false → IsStored keeps stored before → ReadsStored keeps (ReadsDigits before) old stored old
keeps_no_digits keeps stored before old h k = (before, k, no_digits_yet before old h)

-- one token of digits more
pub keeps_more_digits : (keeps : Bool) (before stored after : List ℕ) (n : ℕ) (old middle new : List Token)
    → ReadsStored keeps (ReadsDigits before) old stored middle → TakesText IsDigits middle (decimal n) new
    → IsStored keeps after (stored ++ decimal n) → ReadsStored keeps (ReadsDigits before) old after new
keeps_more_digits keeps before stored after n old middle new (read, k, h) t j =
    (read ++ decimal n, kept_joined keeps after stored read (decimal n) k j, more_digits before read n old middle new h t)

-- a number that no point follows
pub keeps_number_alone : (keeps : Bool) (stored : List ℕ) (old middle new : List Token)
    → ReadsStored keeps (ReadsDigits []) old stored middle → NoDigits middle → first middle ≢ Some Dot → new ≡ middle
    → ReadsStored keeps ReadsNumber old stored new
keeps_number_alone keeps stored old middle new (read, k, h) d n e = (read, k, number_alone read old middle new h d n e)

-- what digits after a point give
abbrev pub DigitsBehind : Bool → List ℕ → List Token → List ℕ → List Token → Type 0
DigitsBehind keeps pointed after stored new =
    (before : List ℕ) → has_exponent before ≡ false → IsStored keeps pointed before
    → ReadsStored keeps (ReadsDigits before) after stored new × NoDigits new

-- a number with a point
pub keeps_number_with_point : (keeps : Bool) (whole pointed stored : List ℕ) (old middle after new : List Token)
    → ReadsStored keeps (ReadsDigits []) old whole middle → middle ≡ Dot ∷ after → IsStored keeps pointed (whole ++ 46 ∷ [])
    → DigitsBehind keeps pointed after stored new → ReadsStored keeps ReadsNumber old stored new
keeps_number_with_point keeps whole pointed stored old middle after new (read, k, h) e j more =
    let fraction = more (read ++ 46 ∷ []) (point_has_no_mark read h.no_mark) (kept_joined keeps pointed whole read (46 ∷ []) k j) in
    (fraction.0.0, fraction.0.1, number_with_point read fraction.0.0 old middle after new h e fraction.0.2 fraction.1)

-- ---- exponents

-- no mark of an exponent
pub keeps_no_exponent : (keeps : Bool) (stored before : List ℕ) (old new : List Token)
    → IsStored keeps stored before → NoMark old → new ≡ old → ReadsStored keeps (ReadsExponent before) old stored new
keeps_no_exponent keeps stored before old new k m e = (before, k, inl (refl, e, m))

-- a mark and its digits
pub keeps_exponent : (keeps : Bool) (before stored marked after mark : List ℕ) (n : ℕ) (old middle new : List Token)
    → has_exponent before ≡ false → IsStored keeps stored before → TakesText IsExponentMark old mark middle
    → IsStored keeps marked (stored ++ mark) → TakesText IsDigits middle (decimal n) new → IsStored keeps after (marked ++ decimal n)
    → ReadsStored keeps (ReadsExponent before) old after new
keeps_exponent keeps before stored marked after mark n old middle new h k m j t l = (
  before ++ mark ++ decimal n,
  kept_joined keeps after marked (before ++ mark) (decimal n) (kept_joined keeps marked stored before mark k j) l,
  inr (exponent_joins before mark n old middle new h m t),
)

-- ---- samples

-- what an exponent after a text gives
abbrev pub ExponentBehind : Bool → List ℕ → List Token → List ℕ → List Token → Type 0
ExponentBehind keeps number middle stored new =
    (before : List ℕ) → has_exponent before ≡ false → IsStored keeps number before
    → ReadsStored keeps (ReadsExponent before) middle stored new

-- a whole sample
pub keeps_sample : (keeps : Bool) (number stored : List ℕ) (old middle new : List Token)
    → sample_fault (first old) ≡ None → ReadsStored keeps ReadsNumber old number middle → ExponentBehind keeps number middle stored new
    → ReadsStored keeps ReadsSample old stored new
keeps_sample keeps number stored old middle new b (read, k, h) more =
    let whole = more read h.no_mark k in
    (whole.0, whole.1, a_sample read whole.0 old middle new h whole.2 (begun_not_empty read whole.0 old middle new b h whole.2))

-- a fault in the exponent is one of the sample
pub exponent_fault : (keeps : Bool) (number : List ℕ) (old middle new : List Token) (e : ReadError)
    → ReadsStored keeps ReadsNumber old number middle
    → ((before : List ℕ) → has_exponent before ≡ false → IsStored keeps number before → IsFault (FailsInSample before middle new) e)
    → IsFault (FailsAtSample old new) e
exponent_fault keeps number old middle new e (read, k, h) fault =
    passes_on (FailsInSample read middle new) (FailsAtSample old new) e (fault read h.no_mark k) (λ kind q p. h.run_is p ∙ q p)

-- ---- ranges

-- a single sample
pub keeps_range_alone : (keeps : Bool) (stored : DecimalValue) (old middle new : List Token)
    → ReadsStored keeps ReadsSample old stored middle → first middle ≢ Some Tilde → new ≡ middle
    → ReadsStored keeps ReadsRange old (record { lower_val = stored; upper_val = None }) new
keeps_range_alone keeps stored old middle new (read, k, h) n e = (
  record { lower_val = read; upper_val = None },
  kept_part keeps (λ (x : DecimalValue). record { lower_val = x; upper_val = None }) stored read k,
  range_alone read old middle new h n e,
)

-- the samples from one to another
pub keeps_range_to : (keeps : Bool) (lower upper : DecimalValue) (old middle after new : List Token)
    → ReadsStored keeps ReadsSample old lower middle → middle ≡ Tilde ∷ after → ReadsStored keeps ReadsSample after upper new
    → ReadsStored keeps ReadsRange old (record { lower_val = lower; upper_val = Some upper }) new
keeps_range_to keeps lower upper old middle after new (a, k, h) e (b, j, g) = (
  record { lower_val = a; upper_val = Some b },
  kept_parts keeps (λ (x y : DecimalValue). record { lower_val = x; upper_val = Some y }) lower a upper b k j,
  range_to a b old middle after new h e g,
)

-- a fault after a tilde is a fault of the range
pub upper_fault : (keeps : Bool) (lower : DecimalValue) (old middle after new : List Token) (kind : ParseError)
    → ReadsStored keeps ReadsSample old lower middle → middle ≡ Tilde ∷ after → FailsAtSample after new kind → FailsAtRange old new kind
upper_fault keeps lower old middle after new kind (read, k, h) e q = no_upper read old middle after new kind h e q

-- ---- lists

-- the first range
pub keeps_one_range : (keeps : Bool) (stored : SampleRange) (front list : List SampleRange) (old new : List Token)
    → front ≡ [] → ReadsStored keeps ReadsRange old stored new → IsStored keeps list (front ++ stored ∷ [])
    → ReadsStored keeps ReadsRanges old list new
keeps_one_range keeps stored front list old new e (read, k, h) j = (
  read ∷ [],
  kept_through keeps list (front ++ stored ∷ []) (read ∷ []) j
      (kept_parts keeps (λ (xs : List SampleRange) (x : SampleRange). xs ++ x ∷ []) front [] stored read (kept_is keeps front [] e) k),
  one_range old new read h,
)

-- one range more after a comma
pub keeps_more_ranges : (keeps : Bool) (old middle after behind new : List Token) (front list : List SampleRange) (stored : SampleRange)
    → ReadsStored keeps ReadsRanges old front middle → middle ≡ Comma ∷ after → first after ≢ Some Ellipsis → behind ≡ after
    → ReadsStored keeps ReadsRange behind stored new → IsStored keeps list (front ++ stored ∷ [])
    → ReadsStored keeps ReadsRanges old list new
keeps_more_ranges keeps old middle after behind new front list stored (rs, k, h) e n f (r, j, g) l = (
  rs ++ r ∷ [],
  kept_through keeps list (front ++ stored ∷ []) (rs ++ r ∷ []) l
      (kept_parts keeps (λ (xs : List SampleRange) (x : SampleRange). xs ++ x ∷ []) front rs stored r k j),
  more_ranges old middle after behind new rs r h e n f g,
)

-- a fault of a range is one of the list
pub list_range_fault : (keeps : Bool) (old middle after behind new : List Token) (front : List SampleRange) (kind : ParseError)
    → ReadsStored keeps ReadsRanges old front middle → middle ≡ Comma ∷ after → first after ≢ Some Ellipsis → behind ≡ after
    → FailsAtRange behind new kind → FailsAtList old new kind
list_range_fault keeps old middle after behind new front kind (rs, k, h) e n f q = range_fault old middle after behind new rs kind h e n f q

-- a list that an ellipsis ends
pub keeps_list_with_ellipsis : (keeps : Bool) (old middle after new : List Token) (front : List SampleRange)
    → ReadsStored keeps ReadsRanges old front middle → middle ≡ Comma ∷ after → after ≡ Ellipsis ∷ new
    → ReadsStored keeps ReadsSampleList old (record { sample_ranges = front; ellipsis = true }) new
keeps_list_with_ellipsis keeps old middle after new front (rs, k, h) e f = (
  record { sample_ranges = rs; ellipsis = true },
  kept_part keeps (λ (xs : List SampleRange). record { sample_ranges = xs; ellipsis = true }) front rs k,
  list_with_ellipsis old middle after new rs h e f,
)

-- a list without one
pub keeps_list_without_ellipsis : (keeps : Bool) (old middle new : List Token) (front : List SampleRange)
    → ReadsStored keeps ReadsRanges old front middle → first middle ≢ Some Comma → new ≡ middle
    → ReadsStored keeps ReadsSampleList old (record { sample_ranges = front; ellipsis = false }) new
keeps_list_without_ellipsis keeps old middle new front (rs, k, h) n e = (
  record { sample_ranges = rs; ellipsis = false },
  kept_part keeps (λ (xs : List SampleRange). record { sample_ranges = xs; ellipsis = false }) front rs k,
  list_without_ellipsis old middle new rs h n e,
)

-- ---- all lists

-- no list yet
pub keeps_no_lists : (keeps : Bool) (old : List Token) → ReadsStored keeps ReadsLists old None old
keeps_no_lists keeps old = (None, kept_whole keeps None, no_lists_yet old)

-- the samples with one list more
abbrev with_one : SampleType → Option samples.Samples → SampleList → samples.Samples
with_one kind given list = with_list (type_token kind) list (unwrap_or given (record { integer = None; decimal = None }))

-- one list more after its type
pub keeps_more_lists : (keeps : Bool) (old middle after behind new : List Token) (given : Option samples.Samples) (kind : SampleType)
    (list : SampleList) (joined : samples.Samples)
    → ReadsStored keeps ReadsLists old given middle → middle ≡ At ∷ after → after ≡ type_token kind ∷ behind
    → ReadsStored keeps ReadsSampleList behind list new → Some joined ≡ joined_list given (record { type = type_token kind; list = list })
    → ReadsStored keeps ReadsLists old (Some joined) new
keeps_more_lists keeps old middle after behind new given kind list joined (ss, k, h) e f (l, j, g) is = (
  Some (with_one kind ss l),
  subst (λ (x : Option samples.Samples). IsStored keeps x (Some (with_one kind ss l))) (sym is)
      (kept_parts keeps (λ (x : Option samples.Samples) (y : SampleList). Some (with_one kind x y)) given ss list l k j),
  more_lists old middle after behind new ss kind l (with_one kind ss l) h e f g refl,
)

-- no type follows At
pub lists_type_fault : (keeps : Bool) (old middle after new : List Token) (given : Option samples.Samples)
    → ReadsStored keeps ReadsLists old given middle → middle ≡ At ∷ after → type_fault (first after) ≡ Some ExpectedSampleType
    → new ≡ after → run_samples (after_sections []) old ≡ Err (ExpectedSampleType, new)
lists_type_fault keeps old middle after new given (ss, k, h) e n s = no_type old middle after new ss h e n s

-- a fault of a list is one of the samples
pub lists_fault : (keeps : Bool) (old middle after behind new : List Token) (given : Option samples.Samples) (kind : SampleType)
    (e : ParseError)
    → ReadsStored keeps ReadsLists old given middle → middle ≡ At ∷ after → after ≡ type_token kind ∷ behind → FailsAtList behind new e
    → run_samples (after_sections []) old ≡ Err (e, new)
lists_fault keeps old middle after behind new given kind e (ss, k, h) f g q = list_fault old middle after behind new ss kind e h f g q

-- no list follows
pub keeps_all_lists : (keeps : Bool) (old middle new : List Token) (given : Option samples.Samples)
    → ReadsStored keeps ReadsLists old given middle → first middle ≢ Some At → new ≡ middle
    → ReadsStored keeps ReadsAllSamples old given new
keeps_all_lists keeps old middle new given (ss, k, h) n e = (ss, k, all_lists old middle new ss h n e)
