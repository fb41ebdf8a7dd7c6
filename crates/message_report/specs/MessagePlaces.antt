-- The places in files of messages, and what is printed for each (docs/TRANSLATORS.md).
--     file_place_text place      what is printed for a place, after the name of its file
--     place_view place      a place of the code
use Rattle.std.specs.Prelude.{ℕ, List, ◌++◌, codes}
use Rattle.icu_plurals.specs.declared.PluralRuleType.{PluralRuleType}
use Rattle.icu_plurals.specs.declared.PluralRuleType.TheVariants.{Cardinal, Ordinal}
use Rattle.message_pattern.specs.PatternParts.{Selector, Exactly, Keyword, selector_view}
use Rattle.plural_documents.specs.PrintedKeys.{name_text}
use Rattle.message_report.specs.MessageForms.{form_name}
use Rattle.message_report.specs.PrintedKeys.{bytes_text, message_text}
use Rattle.message_report.specs.declared.form.Form.{Form}
use Rattle.message_report.specs.declared.place.ArgumentPlace as arguments
use Rattle.message_report.specs.declared.place.LocalePlace as locales
use Rattle.message_report.specs.declared.place.MessagePlace as messages
use Rattle.message_report.specs.declared.place.PatternPlace as patterns
use Rattle.message_report.specs.declared.place.Place as places
use Rattle.message_report.specs.declared.place.Place.TheVariants as place

-- a locale, by its key in the document of a file
pub record FileLocalePlace : Type 0 where
  pub file : List ℕ
  pub locale : List ℕ

-- a message for numbers of a type, by its key
pub record MessagePlace : Type 0 where
  pub locale : FileLocalePlace
  pub type : PluralRuleType
  pub key : List ℕ

-- a pattern, by its key
pub record FilePatternPlace : Type 0 where
  pub locale : FileLocalePlace
  pub key : List ℕ

-- an argument of a pattern, by its name
pub record ArgumentPlace : Type 0 where
  pub pattern : FilePatternPlace
  pub name : List ℕ

pub data FilePlace : Type 0 where
  -- the document of a file
  at_document : List ℕ → FilePlace
  at_locale : FileLocalePlace → FilePlace
  -- a key of a locale that names no part
  at_key : FileLocalePlace → List ℕ → FilePlace
  -- what the sources of messages have, and that of one message, by its key
  at_sources : FileLocalePlace → FilePlace
  at_source : FileLocalePlace → List ℕ → FilePlace
  -- the messages of a type, and one message
  at_messages : FileLocalePlace → PluralRuleType → FilePlace
  at_message : MessagePlace → FilePlace
  at_form : MessagePlace → Form → FilePlace
  -- a key of a message that names no form
  at_other_key : MessagePlace → List ℕ → FilePlace
  -- the patterns, and one pattern
  at_patterns : FileLocalePlace → FilePlace
  at_pattern : FilePatternPlace → FilePlace
  at_argument : ArgumentPlace → FilePlace
  at_branch : ArgumentPlace → Selector → FilePlace

-- the name of its file
abbrev pub file_of : FilePlace → List ℕ
file_of (at_document file) = file
file_of (at_locale l) = l.file
file_of (at_key l key) = l.file
file_of (at_sources l) = l.file
file_of (at_source l key) = l.file
file_of (at_messages l type) = l.file
file_of (at_message m) = m.locale.file
file_of (at_form m form) = m.locale.file
file_of (at_other_key m key) = m.locale.file
file_of (at_patterns l) = l.file
file_of (at_pattern p) = p.locale.file
file_of (at_argument a) = a.pattern.locale.file
file_of (at_branch a selector) = a.pattern.locale.file

-- ---- What is printed

-- the key of a type in a locale
abbrev pub type_name : PluralRuleType → List ℕ
type_name Cardinal = codes "cardinal"
type_name Ordinal = codes "ordinal"

-- what has a name at a place
abbrev pub named_file_place : List ℕ → List ℕ → List ℕ
named_file_place place name = place ++ (codes " " ++ name)

-- `ru`
abbrev pub locale_text : FileLocalePlace → List ℕ
locale_text l = name_text l.locale

-- `ru source`
abbrev pub sources_text : FileLocalePlace → List ℕ
sources_text l = named_file_place (locale_text l) (codes "source")

-- `ru files`, `ru ordinal files`
abbrev pub message_of_type : PluralRuleType → List ℕ → List ℕ → List ℕ
message_of_type Cardinal locale key = named_file_place locale key
message_of_type Ordinal locale key = named_file_place locale (codes "ordinal " ++ key)

abbrev pub message_place_text : MessagePlace → List ℕ
message_place_text m = message_of_type m.type (locale_text m.locale) (message_text m.key)

-- `ru pattern sent`
abbrev pub pattern_place_text : FilePatternPlace → List ℕ
pattern_place_text p = named_file_place (locale_text p.locale) (codes "pattern " ++ message_text p.key)

-- `ru pattern sent {n}`
abbrev pub argument_place_text : ArgumentPlace → List ℕ
argument_place_text a = named_file_place (pattern_place_text a.pattern) (codes "{" ++ (bytes_text a.name ++ codes "}"))

-- `=1`, `one`
abbrev pub branch_selector_text : Selector → List ℕ
branch_selector_text (Exactly number) = codes "=" ++ bytes_text number
branch_selector_text (Keyword word) = bytes_text word

abbrev pub file_place_text : FilePlace → List ℕ
file_place_text (at_document file) = codes "document"
file_place_text (at_locale l) = locale_text l
file_place_text (at_key l key) = named_file_place (locale_text l) (name_text key)
file_place_text (at_sources l) = sources_text l
file_place_text (at_source l key) = named_file_place (sources_text l) (message_text key)
file_place_text (at_messages l type) = named_file_place (locale_text l) (type_name type)
file_place_text (at_message m) = message_place_text m
file_place_text (at_form m form) = named_file_place (message_place_text m) (form_name form)
file_place_text (at_other_key m key) = named_file_place (message_place_text m) (name_text key)
file_place_text (at_patterns l) = named_file_place (locale_text l) (codes "patterns")
file_place_text (at_pattern p) = pattern_place_text p
file_place_text (at_argument a) = argument_place_text a
file_place_text (at_branch a selector) = named_file_place (argument_place_text a) (branch_selector_text selector)

-- ---- The same of the types of the code

abbrev pub file_locale_place_view : locales.LocalePlace → FileLocalePlace
file_locale_place_view l = record { file = l.file.now; locale = l.locale.now }

abbrev pub message_place_view : messages.MessagePlace → MessagePlace
message_place_view m = record { locale = file_locale_place_view m.locale; type = m.rule_type; key = m.key.now }

abbrev pub pattern_place_view : patterns.PatternPlace → FilePatternPlace
pattern_place_view p = record { locale = file_locale_place_view p.locale; key = p.key.now }

abbrev pub argument_place_view : arguments.ArgumentPlace → ArgumentPlace
argument_place_view a = record { pattern = pattern_place_view a.pattern; name = a.name.now }

abbrev pub place_view : places.Place → FilePlace
place_view (place.Document file) = at_document file.now
place_view (place.Locale l) = at_locale (file_locale_place_view l)
place_view (place.Key l key) = at_key (file_locale_place_view l) key.now
place_view (place.Sources l) = at_sources (file_locale_place_view l)
place_view (place.Source l key) = at_source (file_locale_place_view l) key.now
place_view (place.Messages l type) = at_messages (file_locale_place_view l) type
place_view (place.Message m) = at_message (message_place_view m)
place_view (place.Form m form) = at_form (message_place_view m) form
place_view (place.OtherKey m key) = at_other_key (message_place_view m) key.now
place_view (place.Patterns l) = at_patterns (file_locale_place_view l)
place_view (place.Pattern p) = at_pattern (pattern_place_view p)
place_view (place.Argument a) = at_argument (argument_place_view a)
place_view (place.Branch a s) = at_branch (argument_place_view a) (selector_view s)
