-- The catalogue of the patterns of a document of messages (docs/TRANSLATORS.md).
--     IsCatalogPacked json locale answer      the catalogue of the patterns of a locale, or if none is
--         named, of the only one. Faults are looked for in this order: those of the locale's text, of
--         the JSON text, of the document, of its patterns
use Rattle.std.specs.Prelude.{◌≡◌, ◌≢◌, ◌⊎◌, ℕ, List, Option, None, Result, Ok, Err}
use Rattle.std.specs.Borrow.{Bor}
use Rattle.std.specs.Result.{result_map_both}
use Rattle.catalog_commands.specs.DocumentPatterns.{HasPatternsFault, IsPacked}
use Rattle.catalog_commands.specs.LocaleMessages.{OneLocale, locale_messages_in, patterns_in}
use Rattle.catalog_commands.specs.declared.fault.PatternsFault.TheVariants.{Catalog, Message, NoObject, NoText}
use Rattle.icu_plurals.specs.declared.JsonError.TheVariants.{Shape}
use Rattle.message_catalog.specs.declared.error.TextFault.TheVariants as text
use Rattle.plural_documents.specs.Steps.{Then}
use Rattle.plural_exports.specs.GivenDocuments.{ReadsJson}
use Rattle.plural_exports.specs.GivenTexts.{ReadsGiven}
use Rattle.plural_exports.specs.declared.fault.Fault.{Fault}
use Rattle.plural_exports.specs.declared.fault.Fault.TheVariants as fault
use Rattle.serde_json.specs.Data.{Data}
use Rattle.serde_json.specs.Find.{as_object}

-- the messages of the locale that is named, or of the only one
abbrev pub HasMessages : Option (List ℕ) → Data → Result Data Fault → Type 0
HasMessages named document answer =
    answer ≡ result_map_both (λ (one : OneLocale). one.messages) fault.Messages (locale_messages_in named document)

-- the patterns among the messages of a locale
abbrev pub HasPatterns : Data → Result Data Fault → Type 0
HasPatterns messages answer = answer ≡ result_map_both (λ found. found) fault.Messages (patterns_in messages)

-- why patterns have no catalogue; or memory ran out, which needs an object
abbrev pub IsPatternsFault : Data → Fault → Type 0
IsPatternsFault patterns fault.Memory = as_object patterns ≢ None
IsPatternsFault patterns (fault.Document Shape) =
    HasPatternsFault patterns NoObject ⊎ ((key : Bor (List ℕ)) × HasPatternsFault patterns (NoText key))
IsPatternsFault patterns (fault.Pattern kind) =
    (key : Bor (List ℕ)) × (place : ℕ) × HasPatternsFault patterns (Message key (text.Text kind place))
IsPatternsFault patterns (fault.Packing reason) =
    (key : Bor (List ℕ)) × HasPatternsFault patterns (Message key (text.Pattern reason))
IsPatternsFault patterns (fault.Entries reason) = HasPatternsFault patterns (Catalog reason)
IsPatternsFault patterns _ = ⊥

-- their catalogue
abbrev pub PacksPatterns : Data → Result (List ℕ) Fault → Type 0
PacksPatterns patterns (Ok bytes) = IsPacked patterns bytes
PacksPatterns patterns (Err e) = IsPatternsFault patterns e

-- that of the messages of a locale
abbrev pub PacksMessages : Data → Result (List ℕ) Fault → Type 0
PacksMessages messages = Then (HasPatterns messages) PacksPatterns

-- that of a document
abbrev pub PacksDocument : Option (List ℕ) → Data → Result (List ℕ) Fault → Type 0
PacksDocument named document = Then (HasMessages named document) PacksMessages

abbrev pub IsCatalogPacked : List ℕ → List ℕ → Result (List ℕ) Fault → Type 0
IsCatalogPacked bytes locale = Then (ReadsGiven locale) (λ named. Then (ReadsJson bytes) (PacksDocument named))
