-- The tokens of a printed list of samples spell it, though they need not be those that it was read
-- from, if a token holds the number of each run of its digits. From samples that were read to their
-- printed texts; PrintedRules cites it.
use Rattle.std.proofs.Common.{◌≡◌, ◌≢◌, ◌≤◌, ℕ, Bool, true, false, List, [], ◌∷◌, ◌++◌, Option}
use Rattle.std.proofs.Common.{Some, None, refl, sym, ap, ◌∙◌, subst, append_assoc, arith}
use Rattle.std.proofs.lemmas.Bool.{eqb-false}
use Rattle.std.proofs.lemmas.Fmt.{decimal_is_IsNumeral}
use Rattle.std.proofs.lemmas.List.{append-nil}
use Rattle.std.proofs.lemmas.List.Elements.{All-from_recursion, recursion_from_All}
use Rattle.std.specs.Char.{IsAsciiDigit}
use Rattle.std.specs.Fmt.{decimal}
use Rattle.std.specs.List.{AllByRecursion, flat_map}
use Rattle.std.specs.Prelude.{IfSome, codes}
use Rattle.std.specs.Str.Parse.{digits_value}
use Rattle.plural_reference.specs.declared.ast.DecimalValue.{DecimalValue}
use Rattle.plural_operands.specs.declared.operand.Operand.TheVariants.{C}
use Rattle.plural_reference.specs.declared.ast.SampleList.{SampleList}
use Rattle.plural_reference.specs.declared.ast.SampleRange.{SampleRange}
use Rattle.plural_reference.specs.declared.token.Token.{Token}
use Rattle.plural_reference.specs.declared.token.Token.TheVariants.{Operand, Number, Zero, Dot, Comma, Ellipsis, Tilde, E}
use Rattle.plural_reference.specs.Lexer.{max_number}
use Rattle.plural_reference.specs.PrintingLaws.{HasSmallRuns, ListHasSmallRuns}
use Rattle.plural_reference.specs.Samples.{IsDigits, IsExponentMark, IsFraction, IsExponent, SampleParts, IsSampleOf}
use Rattle.plural_reference.specs.Samples.{token_text, IsSample, IsUpper, IsSampleRange, IsEllipsis, IsSampleList}
use Rattle.plural_reference.specs.Inner.Scan.{tokens_from}
use Rattle.plural_reference.specs.Serializer.{joined, prefixed, sample_text, sample_range_text, ellipsis_text, sample_list_text}
use Rattle.plural_reference.proofs.printing.PrintedDigits.{EndsSample, comma_breaks, sample_ends_run, Retold, text_digits, digits_retold}
use Rattle.plural_reference.proofs.printing.PrintedDigits.{fraction_retold, fraction_follows, exponent_retold, exponent_follows}
use Rattle.plural_reference.proofs.printing.PrintedTokens.{below_digits, above_digits, Scans, scans_then, Spells}
use Rattle.plural_reference.proofs.printing.PrintedTokens.{joined_spells, EndsRun, AreDigits, small_fits, nonempty_of}
use Rattle.plural_reference.proofs.reading.ReaderComplete.{last-push}
use Rattle.plural_reference.proofs.samples.SampleComplete.{flat_map-append}
use Rattle.plural_reference.proofs.printing.SpellableConditions.{separated_parts}
use Rattle.plural_reference.proofs.tokens.TokensFit.{TokenFits, AllFit, fit_left, fit_right}

-- ---- a sample

-- a text that isn't empty, with another text after it, isn't empty
append_nonempty : (a b : List ℕ) → a ≢ [] → a ++ b ≢ []
append_nonempty [] b h = absurd (h refl)
append_nonempty (x ∷ xs) b h = λ e. cc

-- the text of a run of digits is not empty
digit_nonempty : (t : Token) → TokenFits t → IsDigits t → token_text t ≢ []
digit_nonempty Zero f h = λ e. cc
digit_nonempty (Number n) f h = nonempty_of (decimal n) (decimal_is_IsNumeral n (small_fits n f)).0.0
digit_nonempty _ f h = absurd h

-- the text of a mark is not empty
mark_nonempty : (m : Token) → IsExponentMark m → token_text m ≢ []
mark_nonempty E h = λ e. cc
mark_nonempty (Operand C) h = λ e. cc
mark_nonempty _ h = absurd h

-- a sample that has a token has some text
sample_nonempty : (i f e : List Token) → AllFit ((i ++ f) ++ e) → AllByRecursion IsDigits i → IsFraction f
    → IsExponent e → (i ++ f) ++ e ≢ [] → flat_map token_text ((i ++ f) ++ e) ≢ []
sample_nonempty (t ∷ ts) f e a h k l some = append_nonempty (token_text t) _ (digit_nonempty t a.0 h.0)
sample_nonempty [] (Dot ∷ ts) e a h k l some = λ x. cc
sample_nonempty [] (_ ∷ ts) e a h k l some = absurd k
sample_nonempty [] [] (m ∷ t ∷ []) a h k l some = append_nonempty (token_text m) _ (mark_nonempty m l.0)
sample_nonempty [] [] (m ∷ []) a h k l some = absurd l
sample_nonempty [] [] (m ∷ t ∷ u ∷ us) a h k l some = absurd l
sample_nonempty [] [] [] a h k l some = absurd (some refl)

module _ (i f e : List Token) (a : AllFit ((i ++ f) ++ e)) (digit : AllByRecursion IsDigits i) (fraction : IsFraction f)
    (exponent : IsExponent e) (some : (i ++ f) ++ e ≢ []) where
  -- the texts of the integer digits, the fraction and the exponent
  abbrev whole : List ℕ
  whole = (flat_map token_text i ++ flat_map token_text f) ++ flat_map token_text e

  -- the text of the sample is these three texts
  text-parts : flat_map token_text ((i ++ f) ++ e) ≡ whole
  text-parts = flat_map-append (i ++ f) e ∙ ap (λ l. l ++ flat_map token_text e) (flat_map-append i f)

  -- the text of an exponent may follow a sample without one
  exponent_ends : EndsSample (flat_map token_text e)
  exponent_ends = subst EndsSample (append-nil (flat_map token_text e)) (exponent_follows e exponent [] tt)

  -- if the sample has small runs, a token holds its integer digits
  integer_small : HasSmallRuns whole → digits_value 10 (flat_map token_text i) ≤ max_number
  integer_small small = small (flat_map token_text i) (record {
    before = [];
    after = flat_map token_text f ++ flat_map token_text e;
    place = append_assoc (flat_map token_text i) (flat_map token_text f) (flat_map token_text e);
    all_digits = All-from_recursion IsAsciiDigit (flat_map token_text i) (text_digits i (fit_left i f (fit_left (i ++ f) e a)) digit);
    begins = tt;
    ends = fraction_follows f fraction (flat_map token_text e) exponent_ends;
  })

  -- and its fraction digits
  fraction_small : HasSmallRuns whole → (ds : List ℕ) → AreDigits ds → flat_map token_text f ≡ 46 ∷ ds → digits_value 10 ds ≤ max_number
  fraction_small small ds are e' = small ds (record {
    before = flat_map token_text i ++ 46 ∷ [];
    after = flat_map token_text e;
    place =
        ap (λ l. (flat_map token_text i ++ l) ++ flat_map token_text e) e'
        ∙ ap (λ l. l ++ flat_map token_text e) (sym (append_assoc (flat_map token_text i) (46 ∷ []) ds));
    all_digits = All-from_recursion IsAsciiDigit ds are;
    begins = rw (last-push (flat_map token_text i) 46) (below_digits 46 (omega arith));
    ends = sample_ends_run (flat_map token_text e) exponent_ends;
  })

  -- the text of the sample gives tokens of a sample, with the same text
  whole_retold : HasSmallRuns whole → Spells EndsSample (Retold (λ tokens. (s : SampleParts) × IsSampleOf tokens s)) whole whole
  whole_retold small =
      let fits = fit_left (i ++ f) e a in
      let left : Spells EndsRun (Retold (AllByRecursion IsDigits)) (flat_map token_text i) (flat_map token_text i) =
      digits_retold (flat_map token_text i) (text_digits i (fit_left i f fits) digit) (integer_small small) in
      let middle : Spells EndsSample (Retold IsFraction) (flat_map token_text f) (flat_map token_text f) =
      fraction_retold f (fit_right i f fits) fraction (fraction_small small) in
      let right : Spells EndsSample (Retold IsExponent) (flat_map token_text e) (flat_map token_text e) =
      exponent_retold e (fit_right (i ++ f) e a) exponent in
      let tokens : List Token = (left.tokens ++ middle.tokens) ++ right.tokens in
      let text_is : flat_map token_text tokens ≡ whole =
      flat_map-append (left.tokens ++ middle.tokens) right.tokens
      ∙ ap (λ l. l ++ flat_map token_text right.tokens) (flat_map-append left.tokens middle.tokens)
      ∙ (λ j. (left.part.1 j ++ middle.part.1 j) ++ right.part.1 j) in
      record {
        tokens = tokens;
        part = (
          (
            record { integer = left.tokens; fraction = middle.tokens; exponent = right.tokens },
            (
              refl,
              left.part.0,
              middle.part.0,
              right.part.0,
              λ none. sample_nonempty i f e a digit fraction exponent some
                  (text-parts ∙ sym text_is ∙ ap (flat_map token_text) none),
            ),
          ),
          text_is,
        );
        scans =
            scans_then EndsSample EndsSample (flat_map token_text i ++ flat_map token_text f) (flat_map token_text e)
            (left.tokens ++ middle.tokens) right.tokens
            (scans_then EndsRun EndsSample (flat_map token_text i) (flat_map token_text f) left.tokens middle.tokens
            left.scans middle.scans (fraction_follows f fraction))
            right.scans
            (exponent_follows e exponent);
      }

-- a sample that was read and has small runs is read again from its text
pub sample_spells : (tokens : List Token) (text : DecimalValue) → AllFit tokens → IsSample tokens text
    → HasSmallRuns text → Spells EndsSample IsSample (sample_text text) text
sample_spells tokens text a h small =
    let s = h.0 in
    let fits : AllFit ((s.integer ++ s.fraction) ++ s.exponent) = subst AllFit h.1.0 a in
    let some : (s.integer ++ s.fraction) ++ s.exponent ≢ [] = λ none. h.1.4 (h.1.0 ∙ none) in
    let text_is : text ≡ whole s.integer s.fraction s.exponent fits h.1.1 h.1.2 h.1.3 some =
    h.2 ∙ ap (flat_map token_text) h.1.0 ∙ text-parts s.integer s.fraction s.exponent fits h.1.1 h.1.2 h.1.3 some in
    let again : Spells EndsSample (Retold (λ ts. (p : SampleParts) × IsSampleOf ts p))
    (whole s.integer s.fraction s.exponent fits h.1.1 h.1.2 h.1.3 some)
    (whole s.integer s.fraction s.exponent fits h.1.1 h.1.2 h.1.3 some) =
    whole_retold s.integer s.fraction s.exponent fits h.1.1 h.1.2 h.1.3 some (subst HasSmallRuns text_is small) in
    record {
      tokens = again.tokens;
      part = (again.part.0.0, again.part.0.1, text_is ∙ sym again.part.1);
      scans = subst (λ (t : List ℕ). Scans EndsSample t again.tokens) (sym text_is) again.scans;
    }

-- ---- ranges and lists

-- the printed text of an upper sample spells it; it is empty if the sample is absent
upper_spells : (tokens : List Token) (upper : Option DecimalValue) → AllFit tokens → IsUpper tokens upper
    → IfSome upper HasSmallRuns → Spells EndsSample IsUpper (prefixed (codes "~") sample_text upper) upper
unfolding tokens_from
upper_spells tokens None a h small = record { tokens = []; part = refl; scans = record { gives = λ rest s. refl } }
upper_spells tokens (Some text) a h small =
    let sample : Spells EndsSample IsSample (sample_text text) text = sample_spells h.0 text (subst AllFit h.1 a).1 h.2 small in
    record {
      tokens = Tilde ∷ sample.tokens;
      part = (sample.tokens, refl, sample.part);
      scans = record { gives = λ rest s. ap (λ ts. Tilde ∷ ts) (sample.scans.gives rest s) };
    }

-- an upper sample, and what may follow a sample, may follow the lower one
upper_follows : (upper : Option DecimalValue) (rest : List ℕ) → EndsSample rest
    → EndsSample (prefixed (codes "~") sample_text upper ++ rest)
upper_follows None rest h = h
upper_follows (Some text) rest h = (above_digits 126 (omega arith), eqb-false 126 46 refl)

-- a part that tokens spell, whose numbers fit
abbrev pub IsSpelled : {A : Type 0} → (List Token → A → Type 0) → A → Type 0
IsSpelled Part x = (tokens : List Token) × AllFit tokens × Part tokens x

-- both samples of a range have small runs
abbrev RangeHasSmallRuns : SampleRange → Type 0
RangeHasSmallRuns r = HasSmallRuns r.lower_val × IfSome r.upper_val HasSmallRuns

-- a range that was read and has small runs is read again from its text
range_spells : (r : SampleRange) → IsSpelled IsSampleRange r → RangeHasSmallRuns r → Spells EndsSample IsSampleRange (sample_range_text r) r
range_spells r h small =
    let k = h.2 in
    let fits : AllFit (k.0 ++ k.1) = subst AllFit k.2 h.1 in
    let lower : Spells EndsSample IsSample (sample_text r.lower_val) r.lower_val =
    sample_spells k.0 r.lower_val (fit_left k.0 k.1 fits) k.3 small.0 in
    let upper : Spells EndsSample IsUpper (prefixed (codes "~") sample_text r.upper_val) r.upper_val =
    upper_spells k.1 r.upper_val (fit_right k.0 k.1 fits) k.4 small.1 in
    record {
      tokens = lower.tokens ++ upper.tokens;
      part = (lower.tokens, upper.tokens, refl, lower.part, upper.part);
      scans =
          scans_then EndsSample EndsSample (sample_text r.lower_val) (prefixed (codes "~") sample_text r.upper_val)
          lower.tokens upper.tokens lower.scans upper.scans (upper_follows r.upper_val);
    }

-- what two facts say of each member together, they say of all
both_give : {A : Type 0} (P Q R : A → Type 0) → ((x : A) → P x → Q x → R x) → (xs : List A) → AllByRecursion P xs
    → AllByRecursion Q xs → AllByRecursion R xs
both_give P Q R f [] h k = tt
both_give P Q R f (x ∷ xs) h k = (f x h.0 k.0, both_give P Q R f xs h.1 k.1)

-- the printed text of an ellipsis spells it; it is empty if the ellipsis is absent
ellipsis_spells : (more : Bool) → Spells EndsSample IsEllipsis (ellipsis_text more) more
unfolding tokens_from
ellipsis_spells false = record { tokens = []; part = refl; scans = record { gives = λ rest s. refl } }
ellipsis_spells true = record { tokens = Comma ∷ Ellipsis ∷ []; part = refl; scans = record { gives = λ rest s. refl } }

-- an ellipsis, and what may follow a sample, may follow one
ellipsis_follows : (more : Bool) (rest : List ℕ) → EndsSample rest → EndsSample (ellipsis_text more ++ rest)
ellipsis_follows false rest h = h
ellipsis_follows true rest h = comma_breaks

-- a list that was read and has small runs is read again from its text
pub list_spells : (l : SampleList) → IsSpelled IsSampleList l → ListHasSmallRuns l → Spells EndsSample IsSampleList (sample_list_text l) l
unfolding tokens_from
list_spells l h small =
    let k = h.2 in
    let ranges = separated_parts Comma IsSampleRange (IsSpelled IsSampleRange) (λ tokens r f p. (tokens, f, p)) k.0
    l.sample_ranges (fit_left k.0 k.1 (subst AllFit k.2 h.1)) k.3 in
    let each = both_give (IsSpelled IsSampleRange) RangeHasSmallRuns
    (λ r. Spells EndsSample IsSampleRange (sample_range_text r) r) range_spells l.sample_ranges ranges.1
    (recursion_from_All RangeHasSmallRuns l.sample_ranges small) in
    let left = joined_spells EndsSample IsSampleRange sample_range_text (codes ", ") Comma (λ rest. refl)
    (λ rest. comma_breaks) l.sample_ranges ranges.0 each in
    let right : Spells EndsSample IsEllipsis (ellipsis_text l.ellipsis) l.ellipsis = ellipsis_spells l.ellipsis in
    record {
      tokens = left.tokens ++ right.tokens;
      part = (left.tokens, right.tokens, refl, left.part, right.part);
      scans =
          scans_then EndsSample EndsSample (joined (codes ", ") sample_range_text l.sample_ranges)
          (ellipsis_text l.ellipsis) left.tokens right.tokens left.scans right.scans (ellipsis_follows l.ellipsis);
    }
