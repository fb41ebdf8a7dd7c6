-- The report of files of messages (docs/TRANSLATORS.md): what is found in each locale, in the order
-- of their bytes. In a locale first in its keys, then in what its messages' sources have, in its
-- messages for cardinal numbers, in those for ordinal numbers, and in its patterns; in a message form
-- by form, and then in its other keys; in a pattern argument by argument, first the missing branches,
-- then branch by branch.
--     IsFoundInMessagesDocument source file document found      what is found in a document under
--         the rules of a source
--     IsFoundInFiles source files found      what is found in files
use Rattle.std.specs.Prelude.{◌≡◌, ℕ, ◌+◌, ◌||◌, bytes_eq, Bool, List, [], ◌∷◌, ◌++◌, codes, length, map, take, drop}
use Rattle.std.specs.Prelude.{Option, Some, None, is_some, ◌⊎◌, ◌↔◌, IsFalse, if◌then◌else◌}
use Rattle.std.specs.Option.{option_and_then}
use Rattle.serde_json.specs.Data.{Data, Members, no_members, member}
use Rattle.serde_json.specs.Find.{get, as_object, as_str}
use Rattle.serde_json.specs.View.{view}
use Rattle.icu_plurals.specs.FiveRules.{FiveRules}
use Rattle.icu_plurals.specs.Categories.{name_of}
use Rattle.icu_plurals.specs.declared.PluralCategory.{PluralCategory}
use Rattle.icu_plurals.specs.declared.PluralCategory.TheVariants.{Zero, One, Two, Few, Many, Other}
use Rattle.icu_plurals.specs.declared.PluralRuleType.{PluralRuleType}
use Rattle.icu_plurals.specs.declared.PluralRuleType.TheVariants.{Cardinal, Ordinal}
use Rattle.message_pattern.specs.PatternParts.{Branching, Part, PatternPiece, Selector, Keyword, Begin}
use Rattle.message_pattern.specs.PatternAnswers.{HasStyledFault, IsStyledPattern}
use Rattle.message_pattern.specs.StyledParts.{unstyled}
use Rattle.message_pattern.specs.declared.error.FaultKind.{FaultKind}
use Rattle.message_report.specs.FormFaults.{Language, HasFormFault, IsLanguageOf, told_of}
use Rattle.message_report.specs.FoundInMessages.{MessageFound, IsFoundInEach, IsFoundInMessageMembers, nothing_found_in_messages, one_form, one_message, messages_together}
use Rattle.message_report.specs.FoundInMessages.{count_faults, count_notes, message_fault_at, message_finding_at, counted_finding_at, further_message_faults}
use Rattle.message_report.specs.MessageFindings.{MessageFinding}
use Rattle.message_report.specs.MessageForms.{form_order, has_form, is_form_name}
use Rattle.message_report.specs.MessagePlaces.{ArgumentPlace, FileLocalePlace, MessagePlace, FilePatternPlace, type_name}
use Rattle.message_report.specs.MessagePlaces.{at_document, at_locale, at_key, at_sources, at_source, at_messages, at_message, at_form}
use Rattle.message_report.specs.MessagePlaces.{at_other_key, at_patterns, at_pattern, at_argument, at_branch}
use Rattle.message_report.specs.PatternFaults.{IsArgumentAt, PluralArgument, TwoLanguages, branch_fault, language_of, missing_fault, type_of_kind}
use Rattle.plural_documents.specs.PrintedKeys.{most_told}
use Rattle.message_report.specs.RulesSource.{RulesSource, HasRules, HasText}
use Rattle.message_report.specs.SourceArguments.{IsTextList, LacksNumber, source_name}
use Rattle.message_report.specs.declared.branch_fault.BranchFault.{BranchFault}
use Rattle.message_report.specs.declared.cause.Cause.TheVariants as cause
use Rattle.message_report.specs.declared.fault.FormFault.{FormFault}
use Rattle.message_report.specs.declared.file.MessageFile.{MessageFile}
use Rattle.message_report.specs.declared.form.Form.{Form}

-- ---- A message

-- a form that is there is counted
abbrev pub form_count : Form → Data → MessageFound
form_count form message = if has_form form message then one_form else nothing_found_in_messages

-- its fault
abbrev pub found_of_fault : MessagePlace → Form → Option FormFault → MessageFound
found_of_fault place form None = nothing_found_in_messages
found_of_fault place form (Some fault) = counted_finding_at (at_form place form) (cause.Form fault)

-- its fault is told, but for a number that it doesn't need
abbrev pub IsFoundInForm : Option Language → Bool → MessagePlace → Data → Form → MessageFound → Type 0
IsFoundInForm language needs_number place message form found =
    (fault : Option FormFault) × HasFormFault language form message fault
    × (found ≡ messages_together (form_count form message) (found_of_fault place form (option_and_then (told_of needs_number) fault)))

-- the keys that name no form
abbrev pub other_keys : Members → List (List ℕ)
other_keys no_members = []
other_keys (member key value members) = if is_form_name key then other_keys members else key ∷ other_keys members

abbrev pub key_finding : MessagePlace → List ℕ → MessageFinding
key_finding place key = message_finding_at (at_other_key place key) cause.NotAForm

-- the first keys have a finding each, and the others are counted in one
abbrev pub found_of_keys : MessagePlace → List (List ℕ) → MessageFound
found_of_keys place keys = record {
  findings = map (key_finding place) (take most_told keys) ++ further_message_faults (at_message place) (length keys);
  faults = length keys;
  notes = 0;
  messages = 0;
  forms = 0;
}

-- first in the forms, then in the other keys
abbrev pub IsFoundInForms : Option Language → Bool → MessagePlace → Data → Option Members → MessageFound → Type 0
IsFoundInForms language needs_number place message None found = found ≡ message_fault_at (at_message place) cause.NoObject
IsFoundInForms language needs_number place message (Some members) found =
    (forms : MessageFound) × IsFoundInEach (IsFoundInForm language needs_number place message) form_order forms
    × (found ≡ messages_together forms (found_of_keys place (other_keys members)))

-- a message is counted; its forms need the number, unless its source lacks it
abbrev pub IsFoundInMessage : Option Language → Option Data → PluralRuleType → FileLocalePlace → List ℕ → Data → MessageFound → Type 0
IsFoundInMessage language arguments type locale key message found =
    (needs_number : Bool) × (more : MessageFound) × (IsFalse needs_number ↔ LacksNumber arguments key)
    × IsFoundInForms language needs_number (record { locale = locale; type = type; key = key }) message (as_object message) more
    × (found ≡ messages_together one_message more)

-- ---- The messages of a type

-- there should be rules of the type
abbrev pub found_of_language : PluralRuleType → FileLocalePlace → Option Language → MessageFound
found_of_language type locale None = message_fault_at (at_locale locale) (cause.NoRules type)
found_of_language type locale (Some language) = nothing_found_in_messages

-- the language of the rules with these texts, if there are any
abbrev pub IsLanguageIf : (PluralCategory → Option (List ℕ) → Type 0) → Option FiveRules → Option Language → Type 0
IsLanguageIf IsText None None = Unit {0}
IsLanguageIf IsText (Some rules) (Some language) = IsLanguageOf rules IsText language
IsLanguageIf IsText _ _ = ⊥

-- that of the locale
abbrev pub HasLanguage : RulesSource → PluralRuleType → List ℕ → Option Language → Type 0
HasLanguage source type locale language =
    (rules : Option FiveRules) × HasRules source type locale rules × IsLanguageIf (HasText source type locale) rules language

-- first that there are no rules
abbrev pub IsFoundUnder : Option Language → Option Data → PluralRuleType → FileLocalePlace → Members → MessageFound → Type 0
IsFoundUnder language arguments type locale members found =
    (messages : MessageFound) × IsFoundInMessageMembers (IsFoundInMessage language arguments type locale) members messages
    × (found ≡ messages_together (found_of_language type locale language) messages)

-- under the rules of the locale; without messages none are needed
abbrev pub IsFoundInMessages : RulesSource → Option Data → PluralRuleType → FileLocalePlace → Members → MessageFound → Type 0
IsFoundInMessages source arguments type locale no_members found = found ≡ nothing_found_in_messages
IsFoundInMessages source arguments type locale (member key value members) found =
    (language : Option Language) × HasLanguage source type locale.locale language
    × IsFoundUnder language arguments type locale (member key value members) found

-- a part that isn't there has no messages, and one that is there should be an object
abbrev pub IsFoundInObject : RulesSource → Option Data → PluralRuleType → FileLocalePlace → Option Members → MessageFound → Type 0
IsFoundInObject source arguments type locale None found = found ≡ message_fault_at (at_messages locale type) cause.NoObject
IsFoundInObject source arguments type locale (Some members) found = IsFoundInMessages source arguments type locale members found

abbrev pub IsFoundInPart : RulesSource → Option Data → PluralRuleType → FileLocalePlace → Option Data → MessageFound → Type 0
IsFoundInPart source arguments type locale None found = found ≡ nothing_found_in_messages
IsFoundInPart source arguments type locale (Some part) found = IsFoundInObject source arguments type locale (as_object part) found

-- ---- What the sources of messages have

-- of a message's source: the value should be a list of texts
abbrev pub IsFoundInSource : FileLocalePlace → List ℕ → Data → MessageFound → Type 0
IsFoundInSource locale key value found =
    (IsTextList value × (found ≡ nothing_found_in_messages))
    ⊎ ((¬ (IsTextList value)) × (found ≡ message_fault_at (at_source locale key) cause.NoTextList))

abbrev pub IsFoundInSourceObject : FileLocalePlace → Option Members → MessageFound → Type 0
IsFoundInSourceObject locale None found = found ≡ message_fault_at (at_sources locale) cause.NoObject
IsFoundInSourceObject locale (Some members) found = IsFoundInMessageMembers (IsFoundInSource locale) members found

abbrev pub IsFoundInSourcePart : FileLocalePlace → Option Data → MessageFound → Type 0
IsFoundInSourcePart locale None found = found ≡ nothing_found_in_messages
IsFoundInSourcePart locale (Some part) found = IsFoundInSourceObject locale (as_object part) found

-- ---- A pattern

-- the fault of a branch, if there is one
abbrev pub findings_at : ArgumentPlace → Selector → Option BranchFault → List MessageFinding
findings_at place selector None = []
findings_at place selector (Some fault) = message_finding_at (at_branch place selector) (cause.Branch fault) ∷ []

-- the order of categories
abbrev pub category_order : List PluralCategory
category_order = Zero ∷ One ∷ Two ∷ Few ∷ Many ∷ Other ∷ []

-- of these categories
abbrev pub missing_findings : Language → ArgumentPlace → PluralArgument → List PluralCategory → List MessageFinding
missing_findings language place a [] = []
missing_findings language place a (category ∷ categories) =
    findings_at place (Keyword (name_of category)) (missing_fault language a category)
    ++ missing_findings language place a categories

-- the selectors with which a further one is compared: the first ones of the argument
abbrev pub most_compared : ℕ
most_compared = 32

-- of these branches, behind some selectors
abbrev pub branch_findings : Language → ArgumentPlace → PluralArgument → List Selector → List Branching → List MessageFinding
branch_findings language place a before [] = []
branch_findings language place a before (b ∷ bs) =
    findings_at place b.selector (branch_fault language a (take most_compared before) b)
    ++ branch_findings language place a (before ++ b.selector ∷ []) bs

abbrev pub language_findings : Language → ArgumentPlace → PluralArgument → List MessageFinding
language_findings language place a =
    missing_findings language place a category_order ++ branch_findings language place a [] a.branches

-- there should be rules of the type
abbrev pub findings_under : PluralRuleType → ArgumentPlace → Option Language → PluralArgument → List MessageFinding
findings_under type place None a = message_finding_at (at_argument place) (cause.NoRules type) ∷ []
findings_under type place (Some language) a = language_findings language place a

-- of an argument with rules of a type; a select has none
abbrev pub argument_findings : TwoLanguages → FilePatternPlace → Option PluralRuleType → PluralArgument → List MessageFinding
argument_findings two place None a = []
argument_findings two place (Some type) a = findings_under type (record { pattern = place; name = a.name }) (language_of two type) a

-- of a piece at a depth that these parts follow, if it begins an argument
abbrev pub HasPieceFindings : TwoLanguages → FilePatternPlace → ℕ → PatternPiece → List Part → List MessageFinding → Type 0
HasPieceFindings two place depth (Begin kind name offset) ps findings =
    (a : PluralArgument) × IsArgumentAt name (is_some offset) depth ps a
    × (findings ≡ argument_findings two place (type_of_kind kind) a)
HasPieceFindings two place depth piece ps findings = findings ≡ []

-- of each argument, however deep, in the order in which they begin
abbrev pub HasPatternFindings : TwoLanguages → FilePatternPlace → List Part → List MessageFinding → Type 0
HasPatternFindings two place [] findings = findings ≡ []
HasPatternFindings two place (p ∷ ps) findings =
    (first more : List MessageFinding) × HasPieceFindings two place p.depth p.piece ps first
    × HasPatternFindings two place ps more × (findings ≡ first ++ more)

-- the first ones, and further faults
abbrev pub count_told : List MessageFinding → ℕ
count_told findings = length (take most_told findings) + count_faults (drop most_told findings)

-- the first ones are told, and of the others the faults are counted in one
abbrev pub found_of_findings : FilePatternPlace → List MessageFinding → MessageFound
found_of_findings place findings = record {
  findings = take most_told findings ++ further_message_faults (at_pattern place) (count_told findings);
  faults = count_faults findings;
  notes = count_notes findings;
  messages = 0;
  forms = 0;
}

-- of the arguments of a pattern with these parts
abbrev pub IsFoundInArguments : TwoLanguages → FilePatternPlace → List Part → MessageFound → Type 0
IsFoundInArguments two place parts found =
    (findings : List MessageFinding) × HasPatternFindings two place parts findings × (found ≡ found_of_findings place findings)

-- of a text: what is wrong with the arguments of the pattern, of which those with simple formats are
-- taken by their names alone, or its first fault if it is none
abbrev pub IsFoundInText : TwoLanguages → FilePatternPlace → List ℕ → MessageFound → Type 0
IsFoundInText two place text found =
    ((parts : List Part) × IsStyledPattern text parts × IsFoundInArguments two place (unstyled parts) found)
    ⊎ ((kind : FaultKind) × (byte : ℕ) × HasStyledFault text kind byte × (found ≡ message_fault_at (at_pattern place) (cause.NoPattern kind byte)))

-- of a value, which should be a text
abbrev pub IsFoundInTextIf : TwoLanguages → FilePatternPlace → Option (List ℕ) → MessageFound → Type 0
IsFoundInTextIf two place None found = found ≡ message_fault_at (at_pattern place) cause.NoText
IsFoundInTextIf two place (Some text) found = IsFoundInText two place text found

-- a pattern is counted as a message
abbrev pub IsFoundInPattern : TwoLanguages → FileLocalePlace → List ℕ → Data → MessageFound → Type 0
IsFoundInPattern two locale key value found =
    (more : MessageFound) × IsFoundInTextIf two (record { locale = locale; key = key }) (as_str value) more
    × (found ≡ messages_together one_message more)

-- ---- The patterns of a locale

-- the languages of the locale's rules of both types
abbrev pub HaveLanguages : RulesSource → List ℕ → TwoLanguages → Type 0
HaveLanguages source locale two = HasLanguage source Cardinal locale two.cardinal × HasLanguage source Ordinal locale two.ordinal

abbrev pub patterns_name : List ℕ
patterns_name = codes "patterns"

abbrev pub IsFoundInPatterns : RulesSource → FileLocalePlace → Members → MessageFound → Type 0
IsFoundInPatterns source locale members found =
    (two : TwoLanguages) × HaveLanguages source locale.locale two × IsFoundInMessageMembers (IsFoundInPattern two locale) members found

abbrev pub IsFoundInPatternsObject : RulesSource → FileLocalePlace → Option Members → MessageFound → Type 0
IsFoundInPatternsObject source locale None found = found ≡ message_fault_at (at_patterns locale) cause.NoObject
IsFoundInPatternsObject source locale (Some members) found = IsFoundInPatterns source locale members found

abbrev pub IsFoundInPatternsPart : RulesSource → FileLocalePlace → Option Data → MessageFound → Type 0
IsFoundInPatternsPart source locale None found = found ≡ nothing_found_in_messages
IsFoundInPatternsPart source locale (Some part) found = IsFoundInPatternsObject source locale (as_object part) found

-- ---- The document

abbrev pub is_locale_part : List ℕ → Bool
is_locale_part key =
    bytes_eq key (type_name Cardinal) || bytes_eq key (type_name Ordinal) || bytes_eq key patterns_name || bytes_eq key source_name

-- each key of a locale should name a part
abbrev pub found_of_part_key : FileLocalePlace → List ℕ → MessageFound
found_of_part_key locale key = if is_locale_part key then nothing_found_in_messages else message_fault_at (at_key locale key) cause.NotAPart

abbrev pub IsFoundInLocaleKey : FileLocalePlace → List ℕ → Data → MessageFound → Type 0
IsFoundInLocaleKey locale key value found = found ≡ found_of_part_key locale key

-- first cardinal numbers
abbrev pub IsFoundInBoth : RulesSource → FileLocalePlace → Data → MessageFound → Type 0
IsFoundInBoth source locale value found =
    (cardinal ordinal : MessageFound)
    × IsFoundInPart source (get source_name value) Cardinal locale (get (type_name Cardinal) value) cardinal
    × IsFoundInPart source (get source_name value) Ordinal locale (get (type_name Ordinal) value) ordinal
    × (found ≡ messages_together cardinal ordinal)

-- and then patterns
abbrev pub IsFoundInAll : RulesSource → FileLocalePlace → Data → MessageFound → Type 0
IsFoundInAll source locale value found =
    (both patterns : MessageFound) × IsFoundInBoth source locale value both
    × IsFoundInPatternsPart source locale (get patterns_name value) patterns × (found ≡ messages_together both patterns)

-- in a locale: in its keys, in what the sources of its messages have, and in all other parts
abbrev pub IsFoundInParts : RulesSource → FileLocalePlace → Data → Option Members → MessageFound → Type 0
IsFoundInParts source locale value None found = found ≡ message_fault_at (at_locale locale) cause.NoObject
IsFoundInParts source locale value (Some members) found =
    (keys sources parts : MessageFound) × IsFoundInMessageMembers (IsFoundInLocaleKey locale) members keys
    × IsFoundInSourcePart locale (get source_name value) sources × IsFoundInAll source locale value parts
    × (found ≡ messages_together keys (messages_together sources parts))

-- of a file
abbrev pub IsFoundInLocale : RulesSource → List ℕ → List ℕ → Data → MessageFound → Type 0
IsFoundInLocale source file locale value found =
    IsFoundInParts source (record { file = file; locale = locale }) value (as_object value) found

abbrev pub IsFoundInLocales : RulesSource → List ℕ → Option Members → MessageFound → Type 0
IsFoundInLocales source file None found = found ≡ message_fault_at (at_document file) cause.NoObject
IsFoundInLocales source file (Some members) found = IsFoundInMessageMembers (IsFoundInLocale source file) members found

abbrev pub IsFoundInMessagesDocument : RulesSource → List ℕ → Data → MessageFound → Type 0
IsFoundInMessagesDocument source file document found = IsFoundInLocales source file (as_object document) found

-- ---- Files

abbrev pub IsFoundInFile : RulesSource → MessageFile → MessageFound → Type 0
IsFoundInFile source file found = IsFoundInMessagesDocument source file.name.now (view file.document.now) found

-- file by file, in the order in which they are given
abbrev pub IsFoundInFiles : RulesSource → List MessageFile → MessageFound → Type 0
IsFoundInFiles source files found = IsFoundInEach (IsFoundInFile source) files found
