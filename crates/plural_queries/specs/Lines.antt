-- The lines that are printed of rules and of elements.
use Rattle.std.specs.Prelude.{◌≡◌, ℕ, List, [], ◌∷◌, ◌++◌, codes, Option, Some, None}
use Rattle.icu_plurals.specs.declared.PluralCategory.{PluralCategory}
use Rattle.icu_plurals.specs.declared.PluralCategory.TheVariants.{Zero, One, Two, Few, Many}
use Rattle.icu_plurals.specs.Categories.{name_of}
use Rattle.icu_plurals.specs.Written.{CompactNumber}
use Rattle.icu_plurals.specs.DecimalChoice.{HasCategory}
use Rattle.icu_plurals.specs.Elements.{HasElement, IsExactElement, IsKeptElement}
use Rattle.icu_plurals.specs.FiveRules.{FiveRules}
use Rattle.icu_plurals.specs.PackedRelations.{PackedRelation}
use Rattle.icu_plurals.specs.PackedTree.{unpacked}
use Rattle.icu_plurals.specs.Ranges.{resolved}
use Rattle.icu_plurals.specs.Serializer.{condition_text}
use Rattle.plural_queries.specs.Input.{RangedRules, RuledElements}
use Rattle.icu_plurals.specs.PackedElements.{PackedValue, elements_of}
use Rattle.plural_message.specs.Messages.{IsMessageWith}

-- a text and a newline
abbrev pub line : List ℕ → List ℕ
line text = text ++ 10 ∷ []

-- the line with the name of a number's category
abbrev pub IsCategoryLine : CompactNumber → FiveRules → List ℕ → Type 0
IsCategoryLine x rules text = (category : PluralCategory) × (text ≡ line (name_of category)) × HasCategory rules x category

-- The line with the name of the category of a range: the one that the ranges have for the
-- categories of its start and its end, else the end's.
abbrev pub IsRangeLine : CompactNumber → CompactNumber → RangedRules → List ℕ → Type 0
IsRangeLine x y ranged text =
    (start : PluralCategory) × (end : PluralCategory) × (text ≡ line (name_of (resolved ranged.ranges start end)))
    × HasCategory ranged.rules x start × HasCategory ranged.rules y end

-- a rule, if present, is a line: its category's name, a colon, a space and its text
abbrev pub rule_line : PluralCategory → Option (List PackedRelation) → List ℕ
rule_line category None = []
rule_line category (Some rule) = name_of category ++ codes ": " ++ condition_text (unpacked rule) ++ codes "\n"

-- the rules that are present, from zero to many
abbrev pub rule_lines : FiveRules → List ℕ
rule_lines rules =
    rule_line Zero rules.zero ++ rule_line One rules.one ++ rule_line Two rules.two ++ rule_line Few rules.few ++ rule_line Many rules.many

abbrev pub AreRuleLines : FiveRules → List ℕ → Type 0
AreRuleLines rules text = text ≡ rule_lines rules

-- ---- The lines that are printed of elements

-- the line with the text of a number's element
abbrev pub IsElementLine : CompactNumber → RuledElements → List ℕ → Type 0
IsElementLine x given text =
    (element : PackedValue) × (text ≡ line element.text) × HasElement (elements_of given.elements) given.rules x element

-- The line with the message of a number: the text of the element that the number chooses, filled by
-- the number's word (docs/ELEMENTS.md); within the exactness bound the element is that of the
-- number itself.
abbrev pub IsMessageLine : CompactNumber → List ℕ → RuledElements → List ℕ → Type 0
IsMessageLine x word given text =
    (message : List ℕ) × (text ≡ line message)
    × IsMessageWith (IsKeptElement (elements_of given.elements) given.rules) x word message
    × IsMessageWith (IsExactElement (elements_of given.elements) given.rules) x word message
