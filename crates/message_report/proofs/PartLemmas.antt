-- The members of a part.
use Rattle.std.proofs.Common.{◌≡◌, List, [], ◌∷◌, length, Bool, true, false, Some, None, refl, arith, String, Global}
use Rattle.std.specs.Prelude.{◌||◌, ◌↔◌, not, IsTrue, Option, is_some}
use Rattle.icu_plurals.specs.declared.PluralRuleType.{PluralRuleType}
use Rattle.icu_plurals.specs.declared.PluralRuleType.TheVariants.{Cardinal, Ordinal}
use Rattle.serde_json.specs.Data.{Data, Members, no_members, member}
use Rattle.serde_json.specs.Find.{as_object, get}
use Rattle.serde_json.specs.View.{members_view}
use Rattle.serde_json.specs.declared.Value.{Value}
use Rattle.message_report.specs.FormFaults.{Language}
use Rattle.message_report.specs.FoundInMessages.{MessageFound}
use Rattle.message_report.specs.MessagePlaces.{FileLocalePlace, type_name}
use Rattle.message_report.specs.Inner.NeededRules.{AreNeeded, has_members_in, is_filled, is_object_in}
use Rattle.message_report.specs.Inner.NeededRules.{IsFoundInBothBy, IsFoundInMessagesBy, IsFoundInObjectBy, IsFoundInPartBy}
use Rattle.message_report.specs.Inner.NeededRules.{IsFoundInPatternsObjectBy, IsFoundInPatternsPartBy}
use Rattle.message_report.specs.MessagesReport.{HasLanguage, HaveLanguages, IsFoundInMessages, IsFoundUnder, patterns_name}
use Rattle.message_report.specs.MessagesReport.{IsFoundInBoth, IsFoundInObject, IsFoundInPart, IsFoundInPatternsObject}
use Rattle.message_report.specs.MessagesReport.{IsFoundInPatternsPart}
use Rattle.message_report.specs.PatternFaults.{TwoLanguages}
use Rattle.message_report.specs.RulesSource.{RulesSource}
use Rattle.message_report.specs.SourceArguments.{source_name}

-- no entries are no members
pub none_there : (entries : List (String Global × Value)) → length entries ≡ 0 → members_view entries ≡ no_members
none_there [] none = refl
none_there (entry ∷ entries) none = absurd (omega arith)

-- an object is filled if it isn't empty
pub filled_if : (entries : List (String Global × Value)) (empty : Bool) → (IsTrue empty ↔ length entries ≡ 0)
    → not empty ≡ is_filled (Some (members_view entries))
filled_if [] true is = refl
filled_if [] false is = let yes : false ≡ true = is.1 refl in cc
filled_if (entry ∷ entries) true is = let none : length (entry ∷ entries) ≡ 0 = is.0 refl in absurd (omega arith)
filled_if (entry ∷ entries) false is = refl

-- what is found in some messages under a language
pub under_messages : (type : PluralRuleType) (locale : FileLocalePlace) (entries : List (String Global × Value))
    (language : Option Language) (arguments : Option Data) (found : MessageFound) → (length entries ≡ 0 → ⊥)
    → IsFoundUnder language arguments type locale (members_view entries) found
    → IsFoundInMessagesBy language arguments type locale (members_view entries) found
under_messages type locale [] language arguments found some under = absurd (some refl)
under_messages type locale (entry ∷ entries) language arguments found some under = under

-- ---- Under the rules of a source

either_first : (a b : Bool) → IsTrue a → IsTrue (a || b)
either_first true b h = refl
either_first false b h = cc

either_second : (a b : Bool) → IsTrue b → IsTrue (a || b)
either_second true b h = refl
either_second false b h = h

by_messages : (source : RulesSource) (arguments : Option Data) (type : PluralRuleType) (locale : FileLocalePlace)
    (language : Option Language) (members : Members)
    (found : MessageFound) → (IsTrue (is_filled (Some members)) → HasLanguage source type locale.locale language)
    → IsFoundInMessagesBy language arguments type locale members found → IsFoundInMessages source arguments type locale members found
by_messages source arguments type locale language no_members found has by = by
by_messages source arguments type locale language (member key value left) found has by = (language, has refl, by)

by_object : (source : RulesSource) (arguments : Option Data) (type : PluralRuleType) (locale : FileLocalePlace)
    (language : Option Language) (members : Option Members)
    (found : MessageFound) → (IsTrue (is_filled members) → HasLanguage source type locale.locale language)
    → IsFoundInObjectBy language arguments type locale members found → IsFoundInObject source arguments type locale members found
by_object source arguments type locale language None found has by = by
by_object source arguments type locale language (Some all) found has by = by_messages source arguments type locale language all found has by

by_part : (source : RulesSource) (arguments : Option Data) (type : PluralRuleType) (locale : FileLocalePlace) (language : Option Language)
    (part : Option Data)
    (found : MessageFound) → (IsTrue (has_members_in part) → HasLanguage source type locale.locale language)
    → IsFoundInPartBy language arguments type locale part found → IsFoundInPart source arguments type locale part found
by_part source arguments type locale language None found has by = by
by_part source arguments type locale language (Some part) found has by =
    by_object source arguments type locale language (as_object part) found has by

by_patterns : (source : RulesSource) (locale : FileLocalePlace) (two : TwoLanguages) (members : Option Members) (found : MessageFound)
    → (IsTrue (is_some members) → HaveLanguages source locale.locale two) → IsFoundInPatternsObjectBy two locale members found
    → IsFoundInPatternsObject source locale members found
by_patterns source locale two None found has by = by
by_patterns source locale two (Some all) found has by = (two, has refl, by)

by_patterns_part : (source : RulesSource) (locale : FileLocalePlace) (two : TwoLanguages) (part : Option Data) (found : MessageFound)
    → (IsTrue (is_object_in part) → HaveLanguages source locale.locale two) → IsFoundInPatternsPartBy two locale part found
    → IsFoundInPatternsPart source locale part found
by_patterns_part source locale two None found has by = by
by_patterns_part source locale two (Some part) found has by = by_patterns source locale two (as_object part) found has by

-- under the languages that are needed, the messages
pub by_both : (source : RulesSource) (locale : FileLocalePlace) (value : Data) (two : TwoLanguages) (found : MessageFound)
    → AreNeeded source locale.locale value two → IsFoundInBothBy two locale value found → IsFoundInBoth source locale value found
by_both source locale value two found needed by = (
  by.0,
  by.1,
  by_part source (get source_name value) Cardinal locale two.cardinal (get (type_name Cardinal) value) by.0
      (λ some. needed.at Cardinal (either_second patterns (has_members_in (get (type_name Cardinal) value)) some)) by.2,
  by_part source (get source_name value) Ordinal locale two.ordinal (get (type_name Ordinal) value) by.1
      (λ some. needed.at Ordinal (either_second patterns (has_members_in (get (type_name Ordinal) value)) some)) by.3,
  by.4,
)
  where
    patterns : Bool
    patterns = is_object_in (get patterns_name value)

-- and the patterns
pub by_needed : (source : RulesSource) (locale : FileLocalePlace) (value : Data) (two : TwoLanguages) (found : MessageFound)
    → AreNeeded source locale.locale value two → IsFoundInPatternsPartBy two locale (get patterns_name value) found
    → IsFoundInPatternsPart source locale (get patterns_name value) found
by_needed source locale value two found needed by =
    by_patterns_part source locale two (get patterns_name value) found
    (λ some. (
      needed.at Cardinal (either_first (is_object_in (get patterns_name value)) (has_members_in (get (type_name Cardinal) value)) some),
      needed.at Ordinal (either_first (is_object_in (get patterns_name value)) (has_members_in (get (type_name Ordinal) value)) some),
    ))
    by
