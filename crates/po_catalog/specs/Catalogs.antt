-- A catalog as contracts see it: its messages and their texts as lists, without where they lie in memory.
use Rattle.std.specs.Prelude.{ℕ, List, map, Option, option_map, Bool, codes}
use Rattle.po_catalog.specs.declared.catalog.Catalog.{Catalog}
use Rattle.po_catalog.specs.declared.entry.Entry.{Entry}
use Rattle.po_catalog.specs.declared.entry.Text.{Text}
use Rattle.po_catalog.specs.declared.fault.Cause.{Cause}
use Rattle.po_catalog.specs.declared.fault.Cause.TheVariants.{NotUtf8, UnclosedText, UnknownEscape, TextNotUtf8, UnknownWord, BadIndex, StrayText, NoText, StrayPluralId, FormWithoutId, FormWithoutIndex, IndexWithoutPluralId, WrongIndex, SecondForm, NoForm}

-- a text of a message, and the line of its keyword
pub record PoText : Type 0 where
  pub line : ℕ
  pub bytes : List ℕ

-- a message, with what is written for it
pub record PoMessage : Type 0 where
  pub line : ℕ
  pub context : Option PoText
  pub id : Option PoText
  pub plural_id : Option PoText
  pub forms : List PoText
  pub flags : List ℕ
  pub is_obsolete : Bool
  pub is_faulty : Bool

abbrev pub text_view : Text → PoText
text_view text = record { line = text.line; bytes = text.bytes.items }

abbrev pub message_view : Entry → PoMessage
message_view entry = record {
  line = entry.line;
  context = option_map text_view entry.context;
  id = option_map text_view entry.id;
  plural_id = option_map text_view entry.plural_id;
  forms = map text_view entry.forms.items;
  flags = entry.flags.items;
  is_obsolete = entry.is_obsolete;
  is_faulty = entry.is_faulty;
}

abbrev pub messages_view : Catalog → List PoMessage
messages_view catalog = map message_view catalog.entries.items

-- ---- the text of what is wrong in a catalog

-- what is wrong, and what to do
abbrev pub cause_text : Cause → List ℕ
cause_text NotUtf8 = codes "it has bytes that are no UTF-8: save the file as UTF-8"
cause_text UnclosedText = codes "a text isn't closed: end it with a quotation mark in its line"
cause_text UnknownEscape = codes "a backslash begins no known escape: write two for the character itself"
cause_text TextNotUtf8 = codes "with its escapes the text is no UTF-8: write its characters themselves"
cause_text UnknownWord = codes "it is no line of a .po file: correct it"
cause_text BadIndex = codes "msgstr[ has no index below 100 and ]: write msgstr[0] and so on"
cause_text StrayText = codes "a text has no keyword before it: write msgid or msgstr"
cause_text NoText = codes "a keyword has no text behind it: write one in quotation marks"
cause_text StrayPluralId = codes "msgid_plural doesn't stand behind its msgid: move it there"
cause_text FormWithoutId = codes "msgstr has no msgid before it: write one"
cause_text FormWithoutIndex = codes "msgstr has no index beside msgid_plural: write msgstr[0] and so on"
cause_text IndexWithoutPluralId = codes "msgstr has an index, and no msgid_plural is before it: write one, or msgstr alone"
cause_text WrongIndex = codes "the index isn't the next one: number the forms from 0 on, each once"
cause_text SecondForm = codes "msgstr stands twice: remove one of them"
cause_text NoForm = codes "the message has no msgstr: write one"
