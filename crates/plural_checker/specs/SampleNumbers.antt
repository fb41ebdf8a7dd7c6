-- The numbers of a sample, or of a range of samples (UTS 35 Part 3, Samples).
--     text_with_c sample      the sample's text, with `c` in place of an `e`
--     GivesSampleNumber text answer      the number that a text writes, or why it writes none
--     number_text places parts exponent      the text of parts / 10 ^ places, with an exponent
--     numbers_between a b      those from a to b in steps of the last visible digit, or why there
--         are none
--     AreNumbersOfRange range answer      the numbers of a range, or why it has none
--     count_of numbers, number_at numbers k      how many there are, and the text of each, counted
--         from 0
use Rattle.std.specs.Prelude.{◌≡◌, ◌⊎◌, ◌≤◌, ℕ, zero, suc, ◌+◌, ◌-◌, ◌/◌, ◌%◌, ◌==◌, nat_lt, Bool, not, if◌then◌else◌, ◌&&◌, ◌||◌}
use Rattle.std.specs.Prelude.{List, [], ◌∷◌, ◌++◌, length, Option, Some, None, Result, Ok, Err, codes}
use Rattle.std.specs.Fmt.{decimal}
use Rattle.std.specs.List.{position_or_len, before_first, after_first}
use Rattle.icu_plurals.specs.declared.DecimalError.{DecimalError}
use Rattle.icu_plurals.specs.declared.DecimalError.TheVariants.{Syntax, Limit, Memory}
use Rattle.icu_plurals.specs.declared.provider.rules.reference.ast.DecimalValue.{DecimalValue}
use Rattle.icu_plurals.specs.declared.provider.rules.reference.ast.SampleRange.{SampleRange}
use Rattle.icu_plurals.specs.Operands.{all_digits_value, kept_places}
use Rattle.icu_plurals.specs.Places.{IsWithinLimit}
use Rattle.icu_plurals.specs.Samples.{letter_e}
use Rattle.icu_plurals.specs.Written.{CompactNumber, WritesCompact, IsCompactOverLimit}
use Rattle.plural_checker.specs.declared.fault.RangeFault.{RangeFault}
use Rattle.plural_checker.specs.declared.fault.RangeFault.TheVariants.{End, Uneven, Long, Down, Wide}
use Rattle.plural_checker.specs.declared.sample_range.SampleNumbers.{SampleNumbers}
use Rattle.plural_checker.specs.declared.sample_range.SampleNumbers.TheVariants.{Single, Stepped}

-- ---- Texts of samples

-- the index of the first `e`, or the length if there is none
abbrev pub place_of_e : List ℕ → ℕ
place_of_e text = position_or_len (λ b. b == letter_e) text

-- `e` and `c` begin an exponent of the same meaning
abbrev pub text_with_c : DecimalValue → List ℕ
text_with_c text =
    if nat_lt (place_of_e text) (length text)
    then before_first (λ b. b == letter_e) text ++ codes "c" ++ after_first (λ b. b == letter_e) text
    else text

-- the text writes this number, which is within the limits, or no number, or one over a limit
abbrev pub GivesSampleNumber : List ℕ → Result CompactNumber DecimalError → Type 0
GivesSampleNumber text (Ok x) = WritesCompact text x × IsWithinLimit x.significand.absolute × (x.exponent ≤ 255)
GivesSampleNumber text (Err Syntax) = (x : CompactNumber) → ¬ (WritesCompact text x)
GivesSampleNumber text (Err Limit) = (x : CompactNumber) × WritesCompact text x × IsCompactOverLimit x
GivesSampleNumber text (Err Memory) = ⊥

-- ---- Texts of steps

-- one digit
abbrev pub digit_text : ℕ → List ℕ
digit_text d = (48 + d) ∷ []

-- a point precedes the first fraction digit
abbrev pub point_at : ℕ → List ℕ
point_at zero = codes "."
point_at (suc places) = []

-- this many parts, with this many fraction digits: the text of the digits before the last, and then
-- the last digit
abbrev pub parts_text : ℕ → ℕ → List ℕ
parts_text zero parts = decimal parts
parts_text (suc places) parts = parts_text places (parts / 10) ++ point_at places ++ digit_text (parts % 10)

-- `c` and the exponent, if it isn't 0
abbrev pub c_and_exponent : ℕ → List ℕ
c_and_exponent exponent = if exponent == 0 then [] else codes "c" ++ decimal exponent

abbrev pub number_text : ℕ → ℕ → ℕ → List ℕ
number_text places parts exponent = parts_text places parts ++ c_and_exponent exponent

-- ---- The numbers of a range

-- the most numbers that a range may have
abbrev pub most_numbers : ℕ
most_numbers = 100

-- the number that all written digits write, without the point
abbrev pub parts_of : CompactNumber → ℕ
parts_of x = all_digits_value x.significand.absolute

-- how many fraction digits the number shows
abbrev pub fraction_places : CompactNumber → ℕ
fraction_places x = length x.significand.absolute.fraction

-- more than 18 digits are written, counting the 0 of an absent integer part
abbrev pub has_many_digits : CompactNumber → Bool
has_many_digits x = nat_lt kept_places (length x.significand.absolute.whole + fraction_places x)

-- both have the same count of fraction digits and the same exponent
abbrev pub are_even : CompactNumber → CompactNumber → Bool
are_even a b = (fraction_places a == fraction_places b) && (a.exponent == b.exponent)

-- the numbers from one to another, in steps of the last digit
abbrev pub stepped : CompactNumber → CompactNumber → SampleNumbers
stepped a b =
    Stepped (record { places = fraction_places a; first = parts_of a; count = parts_of b - parts_of a + 1; exponent = a.exponent })

abbrev pub numbers_between : CompactNumber → CompactNumber → Result SampleNumbers RangeFault
numbers_between a b =
    if not (are_even a b) then Err Uneven
    else (if has_many_digits a || has_many_digits b then Err Long
    else (if nat_lt (parts_of b) (parts_of a) then Err Down
    else (if nat_lt (parts_of b - parts_of a) most_numbers then Ok (stepped a b) else Err Wide)))

-- the numbers between two ends that both write a number, or the fault of the first end that writes
-- none
abbrev pub AreNumbersBetween : DecimalValue → DecimalValue → Result SampleNumbers RangeFault → Type 0
AreNumbersBetween lower upper answer =
    ((e : DecimalError) × GivesSampleNumber (text_with_c lower) (Err e) × (answer ≡ Err (End e)))
    ⊎ ((a : CompactNumber) × (e : DecimalError)
    × GivesSampleNumber (text_with_c lower) (Ok a) × GivesSampleNumber (text_with_c upper) (Err e) × (answer ≡ Err (End e)))
    ⊎ ((a b : CompactNumber)
    × GivesSampleNumber (text_with_c lower) (Ok a) × GivesSampleNumber (text_with_c upper) (Ok b) × (answer ≡ numbers_between a b))

-- a single sample has one number, written by its own text
abbrev pub AreNumbersFrom : DecimalValue → Option DecimalValue → Result SampleNumbers RangeFault → Type 0
AreNumbersFrom lower None answer = answer ≡ Ok (Single (text_with_c lower))
AreNumbersFrom lower (Some upper) answer = AreNumbersBetween lower upper answer

abbrev pub AreNumbersOfRange : SampleRange → Result SampleNumbers RangeFault → Type 0
AreNumbersOfRange range answer = AreNumbersFrom range.lower_val range.upper_val answer

-- ---- Each number

abbrev pub count_of : SampleNumbers → ℕ
count_of (Single text) = 1
count_of (Stepped steps) = steps.count

-- the number that is this many steps after the first
abbrev pub number_at : SampleNumbers → ℕ → List ℕ
number_at (Single text) k = text
number_at (Stepped steps) k = number_text steps.places (steps.first + k) steps.exponent
