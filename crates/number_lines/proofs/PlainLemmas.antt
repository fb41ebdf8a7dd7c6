-- Lines of digits, which are read as they are cut off.
use Rattle.std.proofs.Common.{◌≡◌, ℕ, ◌+◌, ◌-◌, ◌<◌, ◌≤◌, List, [], ◌∷◌, ◌++◌, Option, Some, None, Ok, Bor, length, take, drop}
use Rattle.std.proofs.Common.{get_or, max, refl, sym, ◌∙◌, ap, subst, arith, inr, append_assoc}
use Rattle.std.specs.Prelude.{◌≢◌, IfSome}
use Rattle.std.proofs.lemmas.List.{append-nil, take-append-drop, drop_more, length-take-le, length-append}
use Rattle.fixed_decimal.specs.Digits.{AreDigits, text_of}
use Rattle.fixed_decimal.specs.declared.sign.Sign.TheVariants as sign
use Rattle.plural_operands.specs.Operands.{Operands, of_whole}
use Rattle.plural_operands.specs.Inner.ShortTexts.{AreDigitsOf, HasFront, HasFractionFront, HasPlain, IsTrimmedAt, WritesShort}
use Rattle.plural_operands.specs.Inner.ShortTexts.{WritesShortSigned}
use Rattle.plural_operands.proofs.numbers.ShortReading.{integer_is_short, pointed_plain, without_exponent}
use Rattle.plural_operands.proofs.numbers.ShortReading.{short_number, short_writes, short_limit, short_exponent, short_kept}
use Rattle.icu_plurals.specs.PackedTruth.{packed_truth}
use Rattle.plural_base.specs.ChoiceLaws.{KeptChoiceIsExact}
use Rattle.plural_base.specs.DecimalChoice.{IsKeptChoice}
use Rattle.plural_base.specs.FiveRules.{FiveRules, first_category}
use Rattle.plural_base.specs.declared.category.PluralCategory.{PluralCategory}
use Rattle.number_lines.specs.InputLines.{HasNoEnd}
use Rattle.number_lines.specs.Inner.LineSteps.{BeginsWithLine, EndsByCategory, TakesFrontBytes, BeginsWithFraction, HasFractionLine}
use Rattle.number_lines.specs.NumberAnswers.{IsChosenFor, category_answer}
use Rattle.number_lines.specs.declared.stream.Lines.{Lines}
use Rattle.number_lines.proofs.AfterLemmas.{after_line}
use Rattle.number_lines.proofs.LineLemmas.{at_byte, no_end_both}

-- ---- No digit ends a line

no_end_digits : (ds : List ℕ) → AreDigits ds → HasNoEnd (text_of ds)
no_end_digits [] h = tt
no_end_digits (d ∷ ds) h = (λ e. omega (arith, e), no_end_digits ds h.1)

no_end_of : (text : List ℕ) (n : ℕ) → AreDigitsOf text n → HasNoEnd text
no_end_of text n h = subst HasNoEnd (sym h.spelled) (no_end_digits h.ds h.digits)

-- ---- The category

-- of a short text, by the category of its operands
chosen : (rules : FiveRules) (line : List ℕ) (o : Operands) (category : PluralCategory) → KeptChoiceIsExact → WritesShortSigned line o
    → category ≡ first_category (packed_truth o) rules → IsChosenFor rules line category
unfolding short_number
chosen rules line o category exact h is =
    let x = short_number line o h in
    let kept : IsKeptChoice rules x.significand.absolute x.exponent category = (o, short_kept line o h, is) in (
      x,
      short_writes line o h,
      short_limit line o h,
      short_exponent line o h,
      (kept, exact rules x.significand.absolute x.exponent category h.short.written.digits kept),
    )

-- digits alone
pub whole_line : (rules : FiveRules) (bytes after : List ℕ) (k n : ℕ) (category : PluralCategory) → KeptChoiceIsExact
    → AreDigitsOf (take k bytes) n → k ≤ 18 → 0 < k → k < length bytes → get_or bytes k 0 ≡ 10 → after ≡ drop (k + 1) bytes
    → category ≡ first_category (packed_truth (of_whole n)) rules → BeginsWithLine rules bytes category after
whole_line rules bytes after k n category exact digits few some within end rest is =
    let line : List ℕ = take k bytes in
    let size : length line ≡ k = length-take-le k bytes (omega arith) in
    let front : HasFront line n [] = record { front = line; digits = digits; few = omega (arith, size); spelled = sym (append-nil line) } in
    record {
      line = line;
      none = no_end_of line n digits;
      short = omega (arith, size);
      chosen = chosen rules line (of_whole n) category exact (integer_is_short line [] n front refl (omega (arith, size))) is;
      spelled = at_byte bytes k 10 within end ∙ ap (λ (l : List ℕ). line ++ 10 ∷ l) (sym rest);
    }

-- the digits of a fraction
pub fraction_line : (bytes after : List ℕ) (i k f w t : ℕ) (o : Operands) → AreDigitsOf (take k bytes) f → k ≤ 18 → k < length bytes → k ≢ 0
    → IsTrimmedAt k f w t → get_or bytes k 0 ≡ 10 → after ≡ drop (k + 1) bytes → o ≡ record { i = i; v = k; w = w; f = f; t = t; c = 0 }
    → BeginsWithFraction i bytes o after
fraction_line bytes after i k f w t o digits few within some trimmed end rest is =
    let line : List ℕ = take k bytes in
    let size : length line ≡ k = length-take-le k bytes (omega arith) in
    let p : Operands = record { i = i; v = k; w = w; f = f; t = t; c = 0 } in
    let fraction : HasFractionFront line p []
    = record {
      front = line;
      digits = digits;
      few = omega (arith, size);
      shown = sym size;
      trimmed = trimmed;
      spelled =
          sym (append-nil line);
    } in
    let begun : BeginsWithFraction i bytes p after
    = record {
      digits = line;
      fraction = fraction;
      none = no_end_of line f digits;
      some = some;
      integer = refl;
      exponent = refl;
      spelled = at_byte bytes k 10 within end ∙ ap (λ (l : List ℕ). line ++ 10 ∷ l) (sym rest);
    } in
    subst (λ (q : Operands). BeginsWithFraction i bytes q after) (sym is) begun

-- digits, a point, and such a fraction
pointed_line : (rules : FiveRules) (bytes behind after : List ℕ) (k n : ℕ) (o : Operands) (category : PluralCategory) → KeptChoiceIsExact
    → AreDigitsOf (take k bytes) n → k ≤ 18 → k < length bytes → get_or bytes k 0 ≡ 46 → behind ≡ drop (k + 1) bytes
    → BeginsWithFraction n behind o after → category ≡ first_category (packed_truth o) rules → BeginsWithLine rules bytes category after
pointed_line rules bytes behind after k n o category exact digits few within point rest b is =
    let whole : List ℕ = take k bytes in
    let size : length whole ≡ k = length-take-le k bytes (omega arith) in
    let line : List ℕ = whole ++ 46 ∷ b.digits in
    let behind_point : List ℕ = 46 ∷ b.digits in
    let front : HasFront line n behind_point = record { front = whole; digits = digits; few = omega (arith, size); spelled = refl } in
    let places : ℕ = max (length line - length behind_point) 1 in
    let plain : HasPlain line o places []
    = pointed_plain line behind_point b.digits [] n places o front refl b.fraction b.integer b.exponent b.some refl in
    let short : WritesShort line o = without_exponent line [] places o plain refl in
    let signed : WritesShortSigned line o = record { sign = sign.None; unsigned = line; short = short; spelled = refl } in
    let shown : length b.digits ≡ length b.fraction.front = ap length (b.fraction.spelled ∙ append-nil b.fraction.front) in
    let most : length b.fraction.front ≤ 18 = b.fraction.few in
    let all : length line ≡ length whole + length behind_point = length-append whole behind_point in
    record {
      line = line;
      none = no_end_both whole behind_point (no_end_of whole n digits) (λ e. omega (arith, e), b.none);
      short = omega (arith, size, shown, most, all);
      chosen = chosen rules line o category exact signed is;
      spelled = at_byte bytes k 46 within point ∙ ap (λ (l : List ℕ). whole ++ 46 ∷ l) (sym rest ∙ b.spelled)
          ∙ sym (append_assoc whole behind_point (10 ∷ after));
    }

pub if_pointed : (rules : FiveRules) (bytes behind : List ℕ) (k n : ℕ) (r : Option (PluralCategory × Bor (List ℕ))) → KeptChoiceIsExact
    → AreDigitsOf (take k bytes) n → k ≤ 18 → k < length bytes → get_or bytes k 0 ≡ 46 → behind ≡ drop (k + 1) bytes
    → IfSome r (λ p. HasFractionLine rules n behind p.0 p.1.now) → IfSome r (λ p. BeginsWithLine rules bytes p.0 p.1.now)
if_pointed rules bytes behind k n None exact digits few within point rest h = tt
if_pointed rules bytes behind k n (Some p) exact digits few within point rest h =
    pointed_line rules bytes behind p.1.now k n h.0 p.0 exact digits few within point rest h.1 h.2

-- ---- The line is answered

pub after_plain : (rules : FiveRules) (bytes after : List ℕ) (category : PluralCategory) (old new : Lines) → old.line.items ≡ []
    → BeginsWithLine rules bytes category after → EndsByCategory category old new → TakesFrontBytes rules bytes after old new
after_plain rules bytes after category old new nothing b e = record {
  front = b.line ++ 10 ∷ [];
  spelled = b.spelled ∙ sym (append_assoc b.line (10 ∷ []) after);
  some = omega (arith, length-append b.line (10 ∷ []));
  takes = λ seen text a. after_line rules seen text b.line old new b.none nothing
      (record {
        answer = category_answer category;
        answers = (Ok category, inr (b.short, b.chosen), refl);
        line = e.line ∙ nothing;
        place = e.place;
        printed = e.printed;
      }) a;
}
