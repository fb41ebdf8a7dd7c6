-- What a number has under a block of rules, and under elements. Faults are looked for in this
-- order: those of the rules, of the elements, of the number.
--     IsCategoryOfOperands rules operands answer      the category of six operands
--     IsCategoryOfInteger rules n answer      the category of an integer
--     AreCategoriesOfIntegers rules numbers answer      the number of the category of each integer,
--         in their order
--     IsCategoryOfNumber rules number answer      the category of the number that a text writes
--     IsSureCategoryOf rules number answer      this category within the exactness bound
--     IsExactnessOf rules number answer      whether this category is exact
--     IsElementOf rules elements number answer      the text of the element that the number chooses
--     IsMessageFor rules elements number answer      this text with the number's in the place of
--         each `{}`
use Rattle.std.specs.Prelude.{◌≡◌, ◌↔◌, ℕ, ◌≤◌, ◌^◌, ℤ, pos, List, length, map, Bool, true, false, IsTrue, Result, Ok, Err}
use Rattle.icu_plurals.specs.declared.PluralCategory.{PluralCategory}
use Rattle.icu_plurals.specs.Categories.{place_of}
use Rattle.icu_plurals.specs.CategoryTables.{integer_entry}
use Rattle.icu_plurals.specs.DecimalChoice.{HasCategory, IsExactChoice}
use Rattle.icu_plurals.specs.Elements.{HasElement, IsExactElement, IsKeptElement}
use Rattle.icu_plurals.specs.Exactness.{IsWithinBound}
use Rattle.icu_plurals.specs.FiveRules.{FiveRules, first_category, moduli_of}
use Rattle.icu_plurals.specs.Operands.{Operands, of_whole}
use Rattle.icu_plurals.specs.PackedElements.{PackedElements, PackedValue, elements_of}
use Rattle.icu_plurals.specs.PackedTruth.{packed_truth}
use Rattle.icu_plurals.specs.Written.{CompactNumber}
use Rattle.plural_message.specs.Messages.{IsMessageWith}
use Rattle.plural_exports.specs.GivenBytes.{ReadsElements, ReadsNumberBytes, ReadsRules}
use Rattle.plural_documents.specs.Steps.{Then}
use Rattle.plural_exports.specs.declared.fault.Fault.{Fault}
use Rattle.plural_exports.specs.declared.fault.Fault.TheVariants.{Memory, OutsideBound}

-- ---- Numbers that are returned

-- the number of a category
abbrev pub category_number : PluralCategory → ℤ
category_number category = pos (place_of category)

-- 1 if it is true, else 0
abbrev pub truth_number : Bool → ℤ
truth_number true = pos 1
truth_number false = pos 0

-- ---- Categories

-- The first category whose rule is present and true of the operands, else other.
abbrev pub HasOperandsCategory : Operands → FiveRules → Result PluralCategory Fault → Type 0
HasOperandsCategory operands rules (Ok category) = category ≡ first_category (packed_truth operands) rules
HasOperandsCategory operands rules (Err fault) = ⊥

abbrev pub IsCategoryOfOperands : List ℕ → Operands → Result PluralCategory Fault → Type 0
IsCategoryOfOperands rules operands = Then (ReadsRules rules) (HasOperandsCategory operands)

-- The category of an integer by its operands, of which nothing is cut.
abbrev pub IsCategoryOfInteger : List ℕ → ℕ → Result PluralCategory Fault → Type 0
IsCategoryOfInteger rules n = IsCategoryOfOperands rules (of_whole n)

-- the categories of many integers, a byte each
abbrev pub HaveCategories : List ℕ → FiveRules → Result (List ℕ) Fault → Type 0
HaveCategories numbers rules (Ok bytes) = bytes ≡ map (integer_entry rules) numbers
HaveCategories numbers rules (Err fault) = ⊥

abbrev pub AreCategoriesOfIntegers : List ℕ → List ℕ → Result (List ℕ) Fault → Type 0
AreCategoriesOfIntegers rules numbers = Then (ReadsRules rules) (HaveCategories numbers)

-- The category of a number: the one that its kept operands choose, and within the exactness bound
-- that of the number itself (docs/NUMBERS.md).
abbrev pub HasNumberCategory : FiveRules → CompactNumber → Result PluralCategory Fault → Type 0
HasNumberCategory rules x (Ok category) = HasCategory rules x category
HasNumberCategory rules x (Err fault) = ⊥

abbrev pub IsCategoryOfNumber : List ℕ → List ℕ → Result PluralCategory Fault → Type 0
IsCategoryOfNumber rules number = Then (ReadsRules rules) (λ five. Then (ReadsNumberBytes number) (HasNumberCategory five))

-- the category of the number itself, within the exactness bound of the rules; else that it is
-- outside
abbrev pub HasSureCategory : FiveRules → CompactNumber → Result PluralCategory Fault → Type 0
HasSureCategory rules x (Ok category) =
    IsWithinBound x.significand.absolute x.exponent (moduli_of rules)
    × IsExactChoice rules x.significand.absolute x.exponent category
HasSureCategory rules x (Err fault) = (fault ≡ OutsideBound) × ¬ (IsWithinBound x.significand.absolute x.exponent (moduli_of rules))

abbrev pub IsSureCategoryOf : List ℕ → List ℕ → Result PluralCategory Fault → Type 0
IsSureCategoryOf rules number = Then (ReadsRules rules) (λ five. Then (ReadsNumberBytes number) (HasSureCategory five))

-- whether the number is within the exactness bound of the rules
abbrev pub HasExactness : FiveRules → CompactNumber → Result Bool Fault → Type 0
HasExactness rules x (Ok is_exact) = IsTrue is_exact ↔ IsWithinBound x.significand.absolute x.exponent (moduli_of rules)
HasExactness rules x (Err fault) = ⊥

abbrev pub IsExactnessOf : List ℕ → List ℕ → Result Bool Fault → Type 0
IsExactnessOf rules number = Then (ReadsRules rules) (λ five. Then (ReadsNumberBytes number) (HasExactness five))

-- ---- Texts

-- the rules, then the elements, then the number
abbrev pub AfterAll : {B : Type 0} → (FiveRules → PackedElements → CompactNumber → Result B Fault → Type 0)
    → List ℕ → List ℕ → List ℕ → Result B Fault → Type 0
AfterAll Is rules elements number =
    Then (ReadsRules rules) (λ five. Then (ReadsElements elements) (λ values. Then (ReadsNumberBytes number) (Is five values)))

-- The text of the element of a number: the one that its kept operands choose, and within the
-- exactness bound that of the number itself.
abbrev pub HasNumberElement : FiveRules → PackedElements → CompactNumber → Result (List ℕ) Fault → Type 0
HasNumberElement rules elements x (Ok text) =
    (element : PackedValue) × (text ≡ element.text) × HasElement (elements_of elements) rules x element
HasNumberElement rules elements x (Err fault) = ⊥

abbrev pub IsElementOf : List ℕ → List ℕ → List ℕ → Result (List ℕ) Fault → Type 0
IsElementOf = AfterAll HasNumberElement

-- The text of the element that the number chooses, filled by the number's text (docs/ELEMENTS.md);
-- within the exactness bound the element is that of the number itself. Memory is out only for a
-- message of 2^63 bytes or more.
abbrev pub HasMessage : List ℕ → FiveRules → PackedElements → CompactNumber → Result (List ℕ) Fault → Type 0
HasMessage number rules elements x (Ok text) =
    IsMessageWith (IsKeptElement (elements_of elements) rules) x number text
    × IsMessageWith (IsExactElement (elements_of elements) rules) x number text
HasMessage number rules elements x (Err fault) =
    (fault ≡ Memory)
    × (text : List ℕ) × IsMessageWith (IsKeptElement (elements_of elements) rules) x number text × (2 ^ 63 ≤ length text)

abbrev pub IsMessageFor : List ℕ → List ℕ → List ℕ → Result (List ℕ) Fault → Type 0
IsMessageFor rules elements number = AfterAll (HasMessage number) rules elements number
