-- Not a definition of the subject: which rules a locale needs, and what is found in its parts under
-- the languages of those.
use Rattle.std.specs.Prelude.{◌≡◌, ◌||◌, ℕ, Bool, true, false, IsTrue, List, Option, Some, None, is_some, ◌&&◌, not, bytes_eq}
use Rattle.serde_json.specs.Data.{Data, Members, no_members, member, Items, no_items, item}
use Rattle.serde_json.specs.Find.{as_object, get, as_str}
use Rattle.icu_plurals.specs.declared.PluralRuleType.{PluralRuleType}
use Rattle.icu_plurals.specs.declared.PluralRuleType.TheVariants.{Cardinal, Ordinal}
use Rattle.message_report.specs.FoundInMessages.{MessageFound, IsFoundInMessageMembers, message_fault_at, nothing_found_in_messages, messages_together}
use Rattle.message_report.specs.MessagePlaces.{FileLocalePlace, at_messages, at_patterns, type_name}
use Rattle.message_report.specs.FormFaults.{Language}
use Rattle.message_report.specs.MessagesReport.{patterns_name, HasLanguage, IsFoundInPattern, IsFoundUnder}
use Rattle.message_report.specs.PatternFaults.{TwoLanguages, language_of}
use Rattle.message_report.specs.RulesSource.{RulesSource}
use Rattle.message_report.specs.SourceArguments.{source_name}
use Rattle.message_report.specs.declared.cause.Cause.TheVariants.{NoObject}
use Rattle.plural_message.specs.Messages.{placeholder}

-- an object with members
abbrev pub is_filled : Option Members → Bool
is_filled None = false
is_filled (Some no_members) = false
is_filled (Some (member key value left)) = true

abbrev pub has_members_in : Option Data → Bool
has_members_in None = false
has_members_in (Some part) = is_filled (as_object part)

abbrev pub is_object_in : Option Data → Bool
is_object_in None = false
is_object_in (Some part) = is_some (as_object part)

-- patterns need rules of both types, and messages those of their type
abbrev pub needs_rules : PluralRuleType → Data → Bool
needs_rules type value = is_object_in (get patterns_name value) || has_members_in (get (type_name type) value)

pub record AreNeeded (source : RulesSource) (locale : List ℕ) (value : Data) (two : TwoLanguages) : Type 0 where
  pub at : (type : PluralRuleType) → IsTrue (needs_rules type value) → HasLanguage source type locale (language_of two type)

-- ---- Messages

abbrev pub IsFoundInMessagesBy : Option Language → Option Data → PluralRuleType → FileLocalePlace → Members → MessageFound → Type 0
IsFoundInMessagesBy language arguments type locale no_members found = found ≡ nothing_found_in_messages
IsFoundInMessagesBy language arguments type locale (member key value members) found =
    IsFoundUnder language arguments type locale (member key value members) found

abbrev pub IsFoundInObjectBy : Option Language → Option Data → PluralRuleType → FileLocalePlace → Option Members → MessageFound → Type 0
IsFoundInObjectBy language arguments type locale None found = found ≡ message_fault_at (at_messages locale type) NoObject
IsFoundInObjectBy language arguments type locale (Some members) found =
    IsFoundInMessagesBy language arguments type locale members found

abbrev pub IsFoundInPartBy : Option Language → Option Data → PluralRuleType → FileLocalePlace → Option Data → MessageFound → Type 0
IsFoundInPartBy language arguments type locale None found = found ≡ nothing_found_in_messages
IsFoundInPartBy language arguments type locale (Some part) found =
    IsFoundInObjectBy language arguments type locale (as_object part) found

abbrev pub IsFoundInBothBy : TwoLanguages → FileLocalePlace → Data → MessageFound → Type 0
IsFoundInBothBy two locale value found =
    (cardinal ordinal : MessageFound)
    × IsFoundInPartBy (language_of two Cardinal) (get source_name value) Cardinal locale (get (type_name Cardinal) value) cardinal
    × IsFoundInPartBy (language_of two Ordinal) (get source_name value) Ordinal locale (get (type_name Ordinal) value) ordinal
    × (found ≡ messages_together cardinal ordinal)

-- ---- Patterns

abbrev pub IsFoundInPatternsBy : TwoLanguages → FileLocalePlace → Members → MessageFound → Type 0
IsFoundInPatternsBy two locale members found = IsFoundInMessageMembers (IsFoundInPattern two locale) members found

abbrev pub IsFoundInPatternsObjectBy : TwoLanguages → FileLocalePlace → Option Members → MessageFound → Type 0
IsFoundInPatternsObjectBy two locale None found = found ≡ message_fault_at (at_patterns locale) NoObject
IsFoundInPatternsObjectBy two locale (Some members) found = IsFoundInPatternsBy two locale members found

abbrev pub IsFoundInPatternsPartBy : TwoLanguages → FileLocalePlace → Option Data → MessageFound → Type 0
IsFoundInPatternsPartBy two locale None found = found ≡ nothing_found_in_messages
IsFoundInPatternsPartBy two locale (Some part) found = IsFoundInPatternsObjectBy two locale (as_object part) found

-- ---- whether the values of a list are texts that pass a test

-- each value passes, by its text
abbrev pub all_pass : (Option (List ℕ) → Bool) → Items → Bool
all_pass passes no_items = true
all_pass passes (item value values) = passes (as_str value) && all_pass passes values

-- a text other than the number
abbrev pub is_other_text : Option (List ℕ) → Bool
is_other_text None = false
is_other_text (Some text) = not (bytes_eq text placeholder)
