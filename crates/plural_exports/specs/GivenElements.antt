-- The packed bytes of the elements of eight texts (docs/ELEMENTS.md, docs/FORMATS.md). A text
-- beside that of other isn't an element if it is empty. Faults are looked for in this order: a text
-- isn't UTF-8, elements that can't be packed.
--     AreElementsFrom texts answer      the bytes, or the fault
use Rattle.std.specs.Prelude.{◌≡◌, ℕ, List, Option, Some, option_map, Result, Ok, Err}
use Rattle.std.specs.Str.{IsUtf8}
use Rattle.icu_plurals.specs.declared.ElementsPackError.TheVariants.{DefaultLimit, StartLimit}
use Rattle.icu_plurals.specs.declared.JsonError.TheVariants as json
use Rattle.icu_plurals.specs.Elements.{Elements}
use Rattle.icu_plurals.specs.PackedElements.{PackedElements, PackedValue, pack_fault, packed_of}
use Rattle.plural_exports.specs.GivenDocuments.{AreBytesOf}
use Rattle.plural_exports.specs.GivenTexts.{text_given}
use Rattle.plural_documents.specs.Steps.{Then}
use Rattle.plural_exports.specs.declared.fault.Fault.{Fault}
use Rattle.plural_exports.specs.declared.fault.Fault.TheVariants.{Memory, Utf8, Document}

-- a text for each key
pub record Eight : Type 0 where
  pub other : List ℕ
  pub zero : List ℕ
  pub one : List ℕ
  pub two : List ℕ
  pub few : List ℕ
  pub many : List ℕ
  pub explicit_zero : List ℕ
  pub explicit_one : List ℕ

-- the eight by name
abbrev pub eight : List ℕ → List ℕ → List ℕ → List ℕ → List ℕ → List ℕ → List ℕ → List ℕ → Eight
eight other zero one two few many explicit_zero explicit_one = record {
  other = other;
  zero = zero;
  one = one;
  two = two;
  few = few;
  many = many;
  explicit_zero = explicit_zero;
  explicit_one = explicit_one;
}

-- each is UTF-8
pub record AreAllUtf8 (texts : Eight) : Type 0 where
  pub other : IsUtf8 texts.other
  pub zero : IsUtf8 texts.zero
  pub one : IsUtf8 texts.one
  pub two : IsUtf8 texts.two
  pub few : IsUtf8 texts.few
  pub many : IsUtf8 texts.many
  pub explicit_zero : IsUtf8 texts.explicit_zero
  pub explicit_one : IsUtf8 texts.explicit_one

-- a text, with metadata 0
abbrev pub plain_text : List ℕ → PackedValue
plain_text text = record { metadata = 0; text = text }

-- the value of a text, if it has any byte
abbrev pub value_given : List ℕ → Option PackedValue
value_given text = option_map plain_text (text_given text)

-- the elements of the texts
abbrev pub values_given : Eight → Elements PackedValue
values_given texts = record {
  other = plain_text texts.other;
  zero = value_given texts.zero;
  one = value_given texts.one;
  two = value_given texts.two;
  few = value_given texts.few;
  many = value_given texts.many;
  explicit_zero = value_given texts.explicit_zero;
  explicit_one = value_given texts.explicit_one;
}

-- what the texts are packed as, or one isn't UTF-8
abbrev pub ArePackedAs : Eight → Result PackedElements Fault → Type 0
ArePackedAs texts (Ok packed) = AreAllUtf8 texts × (packed ≡ packed_of (values_given texts))
ArePackedAs texts (Err fault) = (fault ≡ Utf8) × ¬ (AreAllUtf8 texts)

-- why packed elements have no bytes: they are over a limit; or over none, and memory ran out
abbrev pub IsPackingFault : PackedElements → Fault → Type 0
IsPackingFault packed Memory = ¬ (pack_fault packed ≡ Some DefaultLimit) × ¬ (pack_fault packed ≡ Some StartLimit)
IsPackingFault packed (Document (json.Pack fault)) = pack_fault packed ≡ Some fault
IsPackingFault packed fault = ⊥

-- packed elements that have bytes
abbrev pub CanBePacked : PackedElements → Result PackedElements Fault → Type 0
CanBePacked packed (Ok same) = same ≡ packed
CanBePacked packed (Err fault) = IsPackingFault packed fault

-- the packed elements of the texts
abbrev pub HasElementsFrom : Eight → Result PackedElements Fault → Type 0
HasElementsFrom texts = Then (ArePackedAs texts) CanBePacked

-- their bytes
abbrev pub AreElementsFrom : Eight → Result (List ℕ) Fault → Type 0
AreElementsFrom texts = Then (HasElementsFrom texts) AreBytesOf
