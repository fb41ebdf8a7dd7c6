-- The places in a document where something is wrong, and what is printed for each (docs/JSON.md).
--     finding_place_text place      what is printed for a place
--     finding_place_view place      a place of the code
use Rattle.std.specs.Prelude.{ℕ, List, ◌++◌, codes}
use Rattle.icu_plurals.specs.declared.PluralCategory.{PluralCategory}
use Rattle.icu_plurals.specs.Categories.{name_of}
use Rattle.plural_documents.specs.PrintedKeys.{name_text}
use Rattle.plural_fallback.specs.LocalesJson.{part_name}
use Rattle.plural_fallback.specs.declared.locales.Part.{Part}
use Rattle.document_report.specs.declared.finding_place.FindingPlace as places
use Rattle.document_report.specs.declared.finding_place.FindingPlace.TheVariants as place
use Rattle.document_report.specs.declared.finding_place.LocalePlace as locales

-- a locale, by its key in a part
pub record LocalePlace : Type 0 where
  pub part : Part
  pub locale : List ℕ

pub data FindingPlace : Type 0 where
  at_document : FindingPlace
  -- a key of the document
  at_part : List ℕ → FindingPlace
  -- the parents, and the parent of a locale, by the locale's key
  at_parents : FindingPlace
  at_parent : List ℕ → FindingPlace
  at_locale : LocalePlace → FindingPlace
  -- the text of a category
  at_text : LocalePlace → PluralCategory → FindingPlace
  -- a key of the rules or the ranges
  at_key : LocalePlace → List ℕ → FindingPlace

-- ---- What is printed

-- what has a name at a place
abbrev pub named_document_place : List ℕ → List ℕ → List ℕ
named_document_place place name = place ++ (codes " " ++ name)

-- `cardinal ru`
abbrev pub locale_place_text : LocalePlace → List ℕ
locale_place_text l = named_document_place (part_name l.part) (name_text l.locale)

abbrev pub finding_place_text : FindingPlace → List ℕ
finding_place_text at_document = codes "document"
finding_place_text (at_part key) = name_text key
finding_place_text at_parents = codes "parents"
finding_place_text (at_parent locale) = named_document_place (codes "parents") (name_text locale)
finding_place_text (at_locale l) = locale_place_text l
finding_place_text (at_text l category) = named_document_place (locale_place_text l) (name_of category)
finding_place_text (at_key l key) = named_document_place (locale_place_text l) (name_text key)

-- ---- The same of the types of the code

abbrev pub locale_place_view : locales.LocalePlace → LocalePlace
locale_place_view l = record { part = l.part; locale = l.locale.now }

abbrev pub finding_place_view : places.FindingPlace → FindingPlace
finding_place_view place.Document = at_document
finding_place_view (place.Part key) = at_part key.now
finding_place_view place.Parents = at_parents
finding_place_view (place.Parent locale) = at_parent locale.now
finding_place_view (place.Locale l) = at_locale (locale_place_view l)
finding_place_view (place.Text l category) = at_text (locale_place_view l) category
finding_place_view (place.Key l key) = at_key (locale_place_view l) key.now
