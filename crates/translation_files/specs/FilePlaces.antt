-- Where the messages of a file stand, and what stands for the number in their texts.
--     form_line message form      the line of a form's text, else that of its message
--     place_at places locale kind key      where a message stands
--     HasNoPlaces places      no message stands there
--     PutsPlace locale kind key lines old new      a message stands there, and all others as before
--     KeepsPlaces old new      each message stands as before
--     line_of_target, placeholder_of      the same of a message, or of a form of it, in a file
--     target_of place      the message of a finding, or the form of it
use Rattle.std.specs.Prelude.{◌≡◌, ℕ, Bool, ◌&&◌, if◌then◌else◌, bytes_eq, List, String, string_bytes, Option, Some, None, option_map, option_and_then, codes}
use Rattle.std.specs.BTreeMap.{BTreeMap, get_by_text}
use Rattle.std.specs.List.{find}
use Rattle.std.specs.Option.{option_map_or}
use Rattle.std.specs.declared.alloc.Global.{Global}
use Rattle.icu_plurals.specs.declared.PluralRuleType.{PluralRuleType}
use Rattle.icu_plurals.specs.declared.PluralRuleType.TheVariants as rule_type
use Rattle.message_report.specs.MessageForms.{form_name}
use Rattle.message_report.specs.MessagePlaces.{FilePlace, MessagePlace, FilePatternPlace, at_document, at_locale, at_key, at_sources, at_source, at_messages, at_message, at_form, at_other_key, at_patterns, at_pattern, at_argument, at_branch}
use Rattle.message_report.specs.declared.form.Form.{Form}
use Rattle.translation_files.specs.declared.lines.FormLine.{FormLine}
use Rattle.translation_files.specs.declared.lines.MessageKind.{MessageKind}
use Rattle.translation_files.specs.declared.lines.MessageKind.TheVariants.{Cardinal, Ordinal, Pattern}
use Rattle.translation_files.specs.declared.lines.MessageLines.{MessageLines}
use Rattle.translation_files.specs.declared.places.LocalePlaces.{LocalePlaces}
use Rattle.translation_files.specs.declared.places.Places.{Places}

-- ---- the kinds of messages, by their keys in a document, and the lines of forms

abbrev pub kind_name : MessageKind → List ℕ
kind_name Cardinal = codes "cardinal"
kind_name Ordinal = codes "ordinal"
kind_name Pattern = codes "patterns"

-- the text of this form
abbrev pub is_of_form : Form → FormLine → Bool
is_of_form form line = bytes_eq (form_name line.form) (form_name form)

abbrev pub form_line : MessageLines → Option Form → ℕ
form_line message None = message.line
form_line message (Some form) = option_map_or (λ own. own.line) (find (is_of_form form) message.forms.items) message.line

-- ---- The messages of a file, by locale, kind and key

-- those of a locale, by their keys
abbrev pub places_of_kind : MessageKind → LocalePlaces → BTreeMap (String Global) MessageLines
places_of_kind Cardinal places = places.cardinal
places_of_kind Ordinal places = places.ordinal
places_of_kind Pattern places = places.patterns

abbrev pub place_in : MessageKind → List ℕ → Option LocalePlaces → Option MessageLines
place_in kind key None = None
place_in kind key (Some places) = get_by_text (places_of_kind kind places) key

abbrev pub place_at : Places → List ℕ → MessageKind → List ℕ → Option MessageLines
place_at places locale kind key = place_in kind key (get_by_text places.locales locale)

abbrev pub HasNoPlaces : Places → Type 0
HasNoPlaces places = (locale : List ℕ) (kind : MessageKind) (key : List ℕ) → place_at places locale kind key ≡ None

abbrev pub is_kind : MessageKind → MessageKind → Bool
is_kind kind other = bytes_eq (kind_name kind) (kind_name other)

abbrev pub PutsPlace : List ℕ → MessageKind → List ℕ → MessageLines → Places → Places → Type 0
PutsPlace locale kind key lines old new =
    (l : List ℕ) (k : MessageKind) (m : List ℕ)
    → place_at new l k m ≡ (if bytes_eq locale l && (is_kind kind k && bytes_eq key m) then Some lines else place_at old l k m)

abbrev pub KeepsPlaces : Places → Places → Type 0
KeepsPlaces old new =
    (locale : List ℕ) (kind : MessageKind) (key : List ℕ) → place_at new locale kind key ≡ place_at old locale kind key

-- ---- What is asked of them

-- a message, or a form of it
pub record Target : Type 0 where
  pub locale : List ℕ
  pub kind : MessageKind
  pub key : List ℕ
  pub form : Option Form

abbrev pub target : List ℕ → MessageKind → List ℕ → Option Form → Target
target locale kind key form = record { locale = locale; kind = kind; key = key; form = form }

-- where the message stands
abbrev pub lines_of_target : Places → Target → Option MessageLines
lines_of_target places t = place_at places t.locale t.kind t.key

abbrev pub line_of_target : Places → Target → Option ℕ
line_of_target places t = option_map (λ message. form_line message t.form) (lines_of_target places t)

-- `%d`
abbrev pub placeholder_in : MessageLines → Option (List ℕ)
placeholder_in message = option_map (λ text. string_bytes text) message.placeholder

abbrev pub placeholder_of : Places → Target → Option (List ℕ)
placeholder_of places t = option_and_then placeholder_in (lines_of_target places t)

-- ---- The message of a finding

abbrev pub kind_of_type : PluralRuleType → MessageKind
kind_of_type rule_type.Cardinal = Cardinal
kind_of_type rule_type.Ordinal = Ordinal

abbrev pub message_target : MessagePlace → Option Form → Target
message_target m form = target m.locale.locale (kind_of_type m.type) m.key form

abbrev pub pattern_target : FilePatternPlace → Target
pattern_target p = target p.locale.locale Pattern p.key None

abbrev pub target_of : FilePlace → Option Target
target_of (at_document file) = None
target_of (at_locale l) = None
target_of (at_key l key) = None
target_of (at_sources l) = None
target_of (at_source l key) = Some (target l.locale Cardinal key None)
target_of (at_messages l type) = None
target_of (at_message m) = Some (message_target m None)
target_of (at_form m form) = Some (message_target m (Some form))
target_of (at_other_key m key) = Some (message_target m None)
target_of (at_patterns l) = None
target_of (at_pattern p) = Some (pattern_target p)
target_of (at_argument a) = Some (pattern_target a.pattern)
target_of (at_branch a selector) = Some (pattern_target a.pattern)
