-- Compact numbers with their units, such as `1.2 million` (UTS 35 Part 3, Plural Operand Meanings:
-- c and e).
--     unit_of units exponent      the texts for an exponent
--     shown_of exponent number      the text that they show for the number
--     IsCompactText IsChosen rules units number text      the text for a number
use Rattle.std.specs.Prelude.{◌==◌, if◌then◌else◌, ℕ, List}
use Rattle.std.specs.List.{before_first}
use Rattle.icu_plurals.specs.Elements.{Elements}
use Rattle.icu_plurals.specs.FiveRules.{FiveRules}
use Rattle.icu_plurals.specs.PackedElements.{PackedValue}
use Rattle.icu_plurals.specs.Samples.{letter_c}
use Rattle.icu_plurals.specs.Written.{CompactNumber, WritesCompact}
use Rattle.plural_message.specs.Messages.{IsMessageWith}
use Rattle.example_callers.specs.PackedTexts.{TextChoice}
use Rattle.example_callers.specs.declared.compact_units.CompactUnits.{CompactUnits}

-- thousand is ten to the power of 3, and million is ten to the power of 6; no other power has a
-- unit
abbrev pub unit_of : CompactUnits → ℕ → Elements PackedValue
unit_of units exponent = if exponent == 3 then units.thousand else (if exponent == 6 then units.million else units.plain)

-- what is written before the exponent
abbrev pub before_exponent : List ℕ → List ℕ
before_exponent number = before_first (λ byte. byte == letter_c) number

-- with a unit, the exponent isn't shown
abbrev pub shown_of : ℕ → List ℕ → List ℕ
shown_of exponent number =
    if exponent == 3 then before_exponent number else (if exponent == 6 then before_exponent number else number)

-- The number's text writes a number, and the text is the one that this whole number has among those
-- of its unit, with the shown text of the number in place of each `{}`.
abbrev pub IsCompactText : TextChoice → FiveRules → CompactUnits → List ℕ → List ℕ → Type 0
IsCompactText IsChosen rules units number text =
    (x : CompactNumber) × WritesCompact number x
    × IsMessageWith (IsChosen (unit_of units x.exponent) rules) x (shown_of x.exponent number) text
