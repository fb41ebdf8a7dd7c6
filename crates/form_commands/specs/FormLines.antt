-- The lines that are printed of a language's forms: one before them, and then one for each category
-- that has a rule, and for other (UTS 35 Part 3, Language Plural Rules and Samples).
--     IsFormList part locale language text      all lines
use Rattle.std.specs.Prelude.{◌≡◌, ◌⊎◌, ℕ, ◌==◌, List, [], ◌∷◌, ◌++◌, length, codes, Bool, Option, Some, None, if◌then◌else◌}
use Rattle.std.specs.Fmt.{decimal}
use Rattle.icu_plurals.specs.Categories.{name_of}
use Rattle.icu_plurals.specs.FiveRules.{FiveRules, categories_of}
use Rattle.icu_plurals.specs.Lexer.{TextReads, TextFaulty}
use Rattle.icu_plurals.specs.RulesJson.{text_under}
use Rattle.icu_plurals.specs.Samples.{ReadsRule, FaultyRule}
use Rattle.icu_plurals.specs.Serializer.{prefixed, samples_text}
use Rattle.icu_plurals.specs.declared.PluralCategory.{PluralCategory}
use Rattle.icu_plurals.specs.declared.provider.rules.reference.ParseError.{ParseError}
use Rattle.icu_plurals.specs.declared.provider.rules.reference.ast.Rule.{Rule}
use Rattle.number_categories.specs.WholeNumbers.{AreTwoLeast}
use Rattle.plural_fallback.specs.LocalesJson.{part_name}
use Rattle.plural_fallback.specs.declared.locales.Part.{Part}
use Rattle.serde_json.specs.View.{view}
use Rattle.form_commands.specs.declared.language.LanguageRules.{LanguageRules}

-- ---- Whole numbers

-- which of the two least whole numbers there are
abbrev pub wholes_text : Option ℕ → Option ℕ → List ℕ
wholes_text None second = codes "no whole number"
wholes_text (Some first) None = decimal first ++ codes " alone"
wholes_text (Some first) (Some second) = decimal first ++ codes ", also " ++ decimal second

-- that of the two least whole numbers that have the category
abbrev pub IsWholesText : FiveRules → PluralCategory → List ℕ → Type 0
IsWholesText rules category text =
    (first second : Option ℕ) × AreTwoLeast rules category first second × (text ≡ wholes_text first second)

-- ---- Samples

-- a semicolon and the samples of the rule that the text is read as, if it has any; nothing of a
-- text that can't be read
abbrev pub IsSamplesText : List ℕ → List ℕ → Type 0
IsSamplesText rule text =
    ((read : Rule) × TextReads ReadsRule rule read × (text ≡ prefixed (codes ";") samples_text read.samples))
    ⊎ ((fault : ParseError) × TextFaulty FaultyRule rule fault × (text ≡ []))

-- the same if there is a text
abbrev pub IsSamplesOf : Option (List ℕ) → List ℕ → Type 0
IsSamplesOf None text = text ≡ []
IsSamplesOf (Some rule) text = IsSamplesText rule text

-- ---- The line of a form

-- the category, its whole numbers and the samples of its text
abbrev pub IsFormLine : LanguageRules → PluralCategory → List ℕ → Type 0
IsFormLine language category line =
    (wholes samples : List ℕ) × IsWholesText language.rules category wholes
    × IsSamplesOf (text_under category (view language.value.now)) samples
    × (line ≡ name_of category ++ codes ": " ++ wholes ++ samples ++ codes "\n")

-- those of several categories, in their order
abbrev pub AreForms : LanguageRules → List PluralCategory → List ℕ → Type 0
AreForms language [] text = text ≡ []
AreForms language (category ∷ categories) text =
    (first rest : List ℕ) × IsFormLine language category first × AreForms language categories rest × (text ≡ first ++ rest)

-- ---- All lines

-- other is the only category
abbrev pub is_alone : FiveRules → Bool
is_alone rules = length (categories_of rules) == 1

abbrev pub alone_text : Bool → List ℕ
alone_text alone = if alone then codes ", other alone" else []

-- whose rules these are, whether other is alone, and below which limit whole numbers are looked at
abbrev pub header_line : Part → List ℕ → LanguageRules → List ℕ
header_line part locale language =
    locale ++ codes ": " ++ part_name part ++ codes " rules of " ++ language.key.now ++ alone_text (is_alone language.rules)
    ++ codes ", whole numbers below 10000\n"

-- the categories that have a rule, from zero to many, and other
abbrev pub IsFormList : Part → List ℕ → LanguageRules → List ℕ → Type 0
IsFormList part locale language text =
    (forms : List ℕ) × AreForms language (categories_of language.rules) forms × (text ≡ header_line part locale language ++ forms)
