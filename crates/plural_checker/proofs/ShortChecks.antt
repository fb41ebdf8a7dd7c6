-- Numbers are checked by their operands, short ones by these alone.
use Rattle.std.proofs.Common.{◌≡◌, ℕ, ◌+◌, ◌≤◌, List, ◌++◌, Option, Some, None, Ok, inl, inr, refl, sym, ◌∙◌, ap, subst, length, arith, length-append, codes}
use Rattle.std.proofs.lemmas.List.{length-map}
use Rattle.std.specs.Prelude.{IfSome}
use Rattle.icu_plurals.specs.declared.provider.rules.reference.ast.DecimalValue.{DecimalValue}
use Rattle.icu_plurals.specs.declared.provider.rules.reference.ast.SampleRange.{SampleRange}
use Rattle.icu_plurals.specs.Digits.{text_of}
use Rattle.icu_plurals.specs.declared.Sign.{Sign}
use Rattle.icu_plurals.specs.declared.Sign.TheVariants as sign
use Rattle.icu_plurals.specs.declared.PluralCategory.{PluralCategory}
use Rattle.icu_plurals.specs.DecimalChoice.{HasCategory, IsKeptChoice}
use Rattle.icu_plurals.specs.Exactness.{IsBoundedAt}
use Rattle.icu_plurals.specs.FiveRules.{FiveRules, first_category, moduli_of}
use Rattle.icu_plurals.specs.Operands.{Operands, AreKept}
use Rattle.icu_plurals.specs.PackedTruth.{packed_truth}
use Rattle.icu_plurals.specs.Places.{Places, IsWithinLimit, IsWritten, shift_right}
use Rattle.icu_plurals.specs.SureChoice.{IsBounded}
use Rattle.icu_plurals.specs.Written.{CompactNumber, StandsAs, WritesCompact, sign_text}
use Rattle.plural_base.specs.ChoiceLaws.{KeptChoiceIsExact}
use Rattle.number_categories.specs.WholeNumbers.{IsCategoryFault}
use Rattle.number_categories.specs.declared.number_fault.NumberFault.{NumberFault}
use Rattle.number_categories.specs.declared.number_fault.NumberFault.TheVariants.{Text, Outside, Category}
use Rattle.plural_checker.specs.Inner.ShortNumbers.{WritesShortNumber}
use Rattle.plural_checker.specs.NumberChecks.{IsCheckedBy, IsCheckedRange, IsCheckedText}
use Rattle.plural_checker.specs.SampleNumbers.{AreNumbersFrom, AreNumbersOfRange, text_with_c}
use Rattle.plural_checker.specs.declared.fault.SampleFault.TheVariants.{Number}
use Rattle.plural_checker.specs.declared.sample_range.SampleNumbers.TheVariants.{Single}

-- ---- categories

module _ (exact : KeptChoiceIsExact) (rules : FiveRules) (category : PluralCategory) (o : Operands) (x : CompactNumber)
    (written : IsWritten x.significand.absolute) (kept : AreKept x.significand.absolute x.exponent o) (bounded : IsBounded rules x)
  where
    has_choice : (chosen : PluralCategory) → chosen ≡ first_category (packed_truth o) rules → HasCategory rules x chosen
    has_choice chosen e =
        let choice : IsKeptChoice rules x.significand.absolute x.exponent chosen = (o, kept, e) in
        (choice, exact rules x.significand.absolute x.exponent chosen written choice)

    -- what a number's operands tell of it is wrong with it, if it is within the bound
    pub checked_by : (fault : Option NumberFault) → IsCategoryFault category (first_category (packed_truth o) rules) fault
        → IsCheckedBy rules category x fault
    checked_by None same = (bounded, has_choice category (sym same))
    checked_by (Some (Category other)) (is, differs) = (bounded, has_choice other is, differs)
    checked_by (Some (Text error)) is = absurd is
    checked_by (Some Outside) is = absurd is

-- So is what they tell of a short number.
pub short_checked : KeptChoiceIsExact → (rules : FiveRules) (category : PluralCategory) (o : Operands) (fault : Option NumberFault)
    → IsCategoryFault category (first_category (packed_truth o) rules) fault
    → (text : List ℕ) → WritesShortNumber text o → IsCheckedText (Some rules) category text fault
short_checked exact rules category o fault is text short =
    let x : CompactNumber = short.number in
    let bounded : IsBounded rules x =
    subst (λ (e : ℕ). IsBoundedAt (shift_right e x.significand.absolute) (moduli_of rules)) (sym short.no_exponent)
    (record { fraction = short.fraction; whole = inl short.whole }) in
    inl (x, short.given, checked_by exact rules category o x short.written short.kept bounded fault is)

-- Without rules no number is wrong.
pub right_without : (category : PluralCategory) (o : Operands) (text : List ℕ) → WritesShortNumber text o
    → IsCheckedText None category text None
right_without category o text short = inl (short.number, short.given, refl)

-- ---- texts

-- a sign takes no digits away
length_behind_sign : (s : Sign) (digits : List ℕ) → length digits ≤ length (sign_text s ++ digits)
length_behind_sign sign.None digits = omega arith
length_behind_sign sign.Negative digits = omega arith
length_behind_sign sign.Positive digits = omega arith

-- a text of digits has as many bytes as places on each side, at least
places_in : (text : List ℕ) (x : Places) → StandsAs text x
    → (length x.whole ≤ length text) × (length x.fraction ≤ length text)
places_in text x (inl (none, e)) =
    let l : length text ≡ length x.whole = ap length e ∙ length-map x.whole _ in
    let n : length x.fraction ≡ 0 = ap length none in
    (omega arith, omega arith)
places_in text x (inr (inl (above, e))) =
    let w : length (text_of x.whole) ≡ length x.whole = length-map x.whole _ in
    let f : length (text_of x.fraction) ≡ length x.fraction = length-map x.fraction _ in
    let l : length text ≡ length (text_of x.whole) + 1 + length (text_of x.fraction)
    = ap length e ∙ length-append (text_of x.whole ++ codes ".") (text_of x.fraction)
    ∙ ap (λ n. n + length (text_of x.fraction)) (length-append (text_of x.whole) (codes ".")) in
    (omega arith, omega arith)
places_in text x (inr (inr (above, zero, e))) =
    let w : length x.whole ≡ 1 = ap length zero in
    let f : length (text_of x.fraction) ≡ length x.fraction = length-map x.fraction _ in
    let l : length text ≡ 1 + length (text_of x.fraction) = ap length e ∙ length-append (codes ".") (text_of x.fraction) in
    (omega arith, omega arith)

-- A text of few bytes, whose operands are without an exponent, writes a short number.
pub short_text : (text : List ℕ) (o : Operands) → length text ≤ 16 → o.c ≡ 0
    → (x : CompactNumber) × WritesCompact text x × IsWithinLimit x.significand.absolute × (x.exponent ≤ 255)
    × AreKept x.significand.absolute x.exponent o
    → WritesShortNumber text o
short_text text o few none (x, (front, rest, (digits, written, e), exponent, f), limit, small, kept) =
    let y : Places = x.significand.absolute in
    let l : length text ≡ length front + length rest = ap length f ∙ length-append front rest in
    let m : length digits ≤ length front = subst (λ (t : List ℕ). length digits ≤ length t) (sym e) (length_behind_sign x.significand.sign digits) in
    let places : (length y.whole ≤ length digits) × (length y.fraction ≤ length digits) = places_in digits y written.form in
    let whole : length y.whole ≤ length digits = places.0 in
    let fraction : length y.fraction ≤ length digits = places.1 in
    record {
      number = x;
      given = ((front, rest, (digits, written, e), exponent, f), limit, small);
      written = written.digits;
      no_exponent = sym kept.c ∙ none;
      whole = omega arith;
      fraction = omega arith;
      kept = kept;
    }

-- So do the operands that are kept of such a text.
pub short_texts : (text : List ℕ) (o : Operands) (kept : Option Operands) → length text ≤ 16
    → (x : CompactNumber) × WritesCompact text x × IsWithinLimit x.significand.absolute × (x.exponent ≤ 255)
    × AreKept x.significand.absolute x.exponent o
    → IfSome kept (λ same. (same ≡ o) × (o.c ≡ 0)) → IfSome kept (λ operands. WritesShortNumber text operands)
short_texts text o None few writes same = tt
short_texts text o (Some kept) few writes same =
    subst (λ (p : Operands). WritesShortNumber text p) (sym same.0) (short_text text o few same.1 writes)

-- A sample that isn't a range has its own text alone.
single_text : (range : SampleRange) → range.upper_val ≡ None
    → AreNumbersOfRange range (Ok (Single (text_with_c range.lower_val)))
single_text range alone =
    subst (λ (upper : Option DecimalValue). AreNumbersFrom range.lower_val upper (Ok (Single (text_with_c range.lower_val)))) (sym alone) refl

pub single_right : (rules : Option FiveRules) (category : PluralCategory) (range : SampleRange)
    → range.upper_val ≡ None → IsCheckedText rules category (text_with_c range.lower_val) None
    → IsCheckedRange rules category range None 1
single_right rules category range alone checked =
    inr (Single (text_with_c range.lower_val), single_text range alone, (λ k below. checked), refl)

pub single_wrong : (rules : Option FiveRules) (category : PluralCategory) (range : SampleRange) (fault : NumberFault)
    → range.upper_val ≡ None → IsCheckedText rules category (text_with_c range.lower_val) (Some fault)
    → IsCheckedRange rules category range (Some (Number (text_with_c range.lower_val) fault)) 1
single_wrong rules category range fault alone checked =
    inr (
      Single (text_with_c range.lower_val),
      single_text range alone,
      record { place = 0; within = omega arith; before = λ k below. absurd (omega arith); text_is = refl; wrong = checked },
      refl,
    )
