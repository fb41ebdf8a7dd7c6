-- Texts and words as they are seen, and what private functions tell. Not definitions of the subject.
use Rattle.std.specs.Prelude.{List}
use Rattle.message_catalog.specs.MessagePacking.{HasCatalogFault, IsFirstFaulty, KeyedText}
use Rattle.catalog_commands.specs.DocumentPatterns.{IsFirstNoText, IsFirstUnder}
use Rattle.catalog_commands.specs.GivenWords.{GivenWord}
use Rattle.catalog_commands.specs.declared.arguments.Word.{Word}
use Rattle.catalog_commands.specs.declared.fault.PatternsFault.{PatternsFault}
use Rattle.catalog_commands.specs.declared.fault.PatternsFault.TheVariants as fault
use Rattle.catalog_commands.specs.declared.texts.Keyed.{Keyed}
use Rattle.serde_json.specs.Data.{Members, Data}
use Rattle.std.specs.Borrow.{Bor}
use Rattle.catalog_commands.specs.LocaleMessages.{OneLocale, one_locale}
use Rattle.catalog_commands.specs.declared.locales.LocaleMessages.{LocaleMessages}
use Rattle.serde_json.specs.View.{view}
use Rattle.serde_json.specs.declared.value.Value.{Value}

-- ---- the messages of a locale as they are seen

abbrev pub locale_view : LocaleMessages → OneLocale
locale_view of = one_locale of.locale.now (view of.messages.now)

abbrev pub json_value_view : Bor Value → Data
json_value_view value = view value.now

abbrev pub keyed_view : Keyed → KeyedText
keyed_view keyed = record { key = keyed.key.now; text = keyed.text.now }

abbrev pub word_view : Word → GivenWord
word_view word = record { name = word.name.now; value = word.value.now }

-- the first key whose value isn't a text, or memory ran out
abbrev pub TellsNoText : Members → PatternsFault → Type 0
TellsNoText members (fault.NoText key) = IsFirstNoText members key.now
TellsNoText _ fault.Memory = Unit {0}
TellsNoText _ _ = ⊥

-- why texts have no catalogue, or memory ran out
abbrev pub TellsPacking : List KeyedText → PatternsFault → Type 0
TellsPacking texts (fault.Message key reason) = IsFirstUnder key.now (λ list index. IsFirstFaulty list index reason) texts
TellsPacking texts (fault.Catalog reason) = HasCatalogFault texts reason
TellsPacking texts fault.Memory = Unit {0}
TellsPacking texts _ = ⊥
