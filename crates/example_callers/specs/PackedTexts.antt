-- Texts by category: which texts packed texts stand for, how a number's text is chosen, and the
-- message of a number by the rules and texts that a formatter owns.
use Rattle.std.specs.Prelude.{◌≡◌, ◌⊎◌, ℕ, List}
use Rattle.icu_plurals.specs.Elements.{Elements}
use Rattle.icu_plurals.specs.FiveRules.{FiveRules}
use Rattle.icu_plurals.specs.PackedElements.{PackedElements, PackedValue, elements_of, packed_of}
use Rattle.icu_plurals.specs.Places.{Places}
use Rattle.plural_message.specs.Messages.{IsMessageOf}
use Rattle.example_callers.specs.declared.formatter.Formatter.{Formatter}

-- the texts that they hold, or those that they were packed from
abbrev pub AreTextsOfPacked : PackedElements → Elements PackedValue → Type 0
AreTextsOfPacked packed texts = (elements_of packed ≡ texts) ⊎ (packed ≡ packed_of texts)

-- How a text is chosen by rules, for digits and an exponent: `IsKeptElement`, by what is kept of
-- the number, or `IsExactElement`, within the bound, by the number itself.
abbrev pub TextChoice : Type 1
TextChoice = Elements PackedValue → FiveRules → Places → ℕ → PackedValue → Type 0

-- For all texts that the formatter may hold: the number's text writes a number, and the message is
-- the text that this number has among them, with the number's text in place of each `{}`.
abbrev pub IsFormatted : TextChoice → Formatter → List ℕ → List ℕ → Type 0
IsFormatted IsChosen formatter number message =
    (texts : Elements PackedValue) → AreTextsOfPacked formatter.texts texts
    → IsMessageOf (IsChosen texts formatter.rules) number message
