-- Not a definition of the subject: what private calls return.
use Rattle.std.specs.Prelude.{◌≡◌, ℕ, ℤ, List, Result, Ok, Err, Some, Bool, Option}
use Rattle.std.specs.Borrow.{Bor}
use Rattle.icu_plurals.specs.declared.Five.{Five}
use Rattle.icu_plurals.specs.FiveRules.{five}
use Rattle.plural_exports.specs.Results.{IsToldWritten}
use Rattle.plural_exports.specs.declared.fault.Fault.{Fault}
use Rattle.plural_exports.specs.declared.element_texts.EightTexts.{EightTexts as Lent}
use Rattle.plural_exports.specs.GivenElements.{Eight, eight}
use Rattle.icu_plurals.specs.DocumentJson.{Document as Maps, document_of_json, of_locale}
use Rattle.plural_documents.specs.Inputs.{json_of}
use Rattle.plural_documents.specs.Steps.{Then}
use Rattle.plural_exports.specs.GivenDocuments.{MeansMaps, ReadsJson}
use Rattle.serde_json.specs.Data.{Data}
use Rattle.std.specs.Str.{bytes_eq}
use Rattle.icu_plurals.specs.Elements.{Elements, unless_equal}

-- the result, with its value seen so
abbrev pub GivesSeen : {A B : Type 0} → (A → B) → (Result B Fault → Type 0) → Result A Fault → Type 0
GivesSeen seen Is (Ok x) = Is (Ok (seen x))
GivesSeen seen Is (Err fault) = Is (Err fault)

-- the bytes of five references
abbrev pub lent_five : Five (Bor (List ℕ)) → Five (List ℕ)
lent_five bytes = five bytes.zero.now bytes.one.now bytes.two.now bytes.few.now bytes.many.now

-- some bytes are right, which were written and whose length is the result; or a fault is, and
-- nothing was written
abbrev pub GivesWritten : (Result (List ℕ) Fault → Type 0) → List ℕ → List ℕ → Result ℤ Fault → Type 0
GivesWritten Is old new (Ok told) = (bytes : List ℕ) × Is (Ok bytes) × IsToldWritten old new told (Ok bytes)
GivesWritten Is old new (Err fault) = Is (Err fault) × (new ≡ old)

-- the bytes of eight references
abbrev pub lent_eight : Lent → Eight
lent_eight texts =
    eight texts.other.now texts.five.zero.now texts.five.one.now texts.five.two.now texts.five.few.now texts.five.many.now
    texts.explicit_zero.now texts.explicit_one.now

-- ---- what the maps of a document have for a locale

-- these come from the maps of a JSON text, or it has none
abbrev pub HasMapsFor : List ℕ → List ℕ → Result Maps Fault → Type 0
HasMapsFor bytes locale (Ok some) =
    (value : Data) × (maps : Maps) × (json_of bytes ≡ Some value) × (document_of_json value ≡ Ok maps) × (some ≡ of_locale locale maps)
HasMapsFor bytes locale (Err fault) = Then (ReadsJson bytes) MeansMaps (Err fault)

-- ---- elements that are made of texts

-- whether borrowed texts are the same
abbrev pub same_text : Bor (List ℕ) → Bor (List ℕ) → Bool
same_text x y = bytes_eq x.now y.now

-- the elements of the texts, of which those that equal that of other are left out
abbrev pub kept_texts : Bor (List ℕ) → Five (Option (Bor (List ℕ))) → Option (Bor (List ℕ)) → Option (Bor (List ℕ))
    → Elements (Bor (List ℕ))
kept_texts other texts explicit_zero explicit_one = record {
  other = other;
  zero = unless_equal same_text other texts.zero;
  one = unless_equal same_text other texts.one;
  two = unless_equal same_text other texts.two;
  few = unless_equal same_text other texts.few;
  many = unless_equal same_text other texts.many;
  explicit_zero = explicit_zero;
  explicit_one = explicit_one;
}
