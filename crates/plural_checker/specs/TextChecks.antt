-- What is wrong with the texts of a language's rules.
--     AreRulesIfRead texts rules      the rules of the five texts, if none is too long and each
--         gives its rule
--     IsFoundInCategoryText rules category text found      the faults of one text
--     AreFindingsOf texts report      the faults of all six, in the order zero, one, two, few,
--         many, other
use Rattle.std.specs.Prelude.{◌≡◌, ◌≢◌, ◌⊎◌, ℕ, List, [], ◌∷◌, length, filter, Bool, true, false, Option, Some, None, Result, Ok, Err, IsTrue, IsFalse}
use Rattle.icu_plurals.specs.declared.PluralCategory.{PluralCategory}
use Rattle.icu_plurals.specs.declared.PluralCategory.TheVariants.{Zero, One, Two, Few, Many, Other}
use Rattle.icu_plurals.specs.declared.provider.rules.reference.ParseError.{ParseError}
use Rattle.icu_plurals.specs.declared.provider.rules.reference.Token.{Token}
use Rattle.icu_plurals.specs.declared.provider.rules.reference.Token.TheVariants as token
use Rattle.icu_plurals.specs.declared.provider.rules.reference.ast.AndCondition.{AndCondition}
use Rattle.icu_plurals.specs.declared.provider.rules.reference.ast.Rule.{Rule}
use Rattle.icu_plurals.specs.declared.provider.rules.reference.ast.SampleList.{SampleList}
use Rattle.icu_plurals.specs.declared.provider.rules.reference.ast.SampleRange.{SampleRange}
use Rattle.icu_plurals.specs.declared.provider.rules.reference.ast.Samples as samples
use Rattle.icu_plurals.specs.declared.provider.rules.runtime.ast.RuleError.{RuleError}
use Rattle.icu_plurals.specs.declared.provider.rules.runtime.ast.RuleError.TheVariants.{Memory, Parse}
use Rattle.icu_plurals.specs.declared.Five.{Five}
use Rattle.icu_plurals.specs.FiveRules.{FiveRules}
use Rattle.icu_plurals.specs.Lexer.{AreTokensOf, TextReads}
use Rattle.icu_plurals.specs.PackedRelations.{PackedRelation}
use Rattle.icu_plurals.specs.RuleOfText.{TextGives}
use Rattle.icu_plurals.specs.RuleTexts.{AreRulesOf, IsFirstRefused}
use Rattle.icu_plurals.specs.Samples.{ReadsRule, TextIsRule}
use Rattle.icu_plurals.specs.Serializer.{rule_text}
use Rattle.plural_reference.specs.FaultPlaces.{TextFaultyAt}
use Rattle.token_comparison.specs.SameTokens.{HaveOtherTokens, HaveSameTokens}
use Rattle.plural_checker.specs.Findings.{Findings, no_findings, fault_alone, FindsBoth, EachFinds, IsReportOfFindings}
use Rattle.plural_checker.specs.LanguageTexts.{SixTexts, has_long, is_long}
use Rattle.plural_checker.specs.NumberChecks.{IsCheckedRange}
use Rattle.plural_checker.specs.declared.fault.Fault.{Fault}
use Rattle.plural_checker.specs.declared.fault.SampleFault.{SampleFault}
use Rattle.plural_checker.specs.declared.fault.SampleType.{SampleType}
use Rattle.plural_checker.specs.declared.fault.SampleType.TheVariants.{Integer, Decimal}
use Rattle.plural_checker.specs.declared.fault.TextFault.TheVariants.{TooLong, Unread, Partly, Order, Condition, Sample}
use Rattle.plural_checker.specs.declared.report.Report.{Report}

-- ---- The rules

-- a text is present and gives no rule
abbrev pub IsOneRefused : Five (Option (List ℕ)) → Type 0
IsOneRefused texts = (category : PluralCategory) × (error : RuleError) × IsFirstRefused texts category error × (error ≢ Memory)

-- no text is long, and each that is present gives its rule; or there are no rules, since one text
-- is long or gives none
abbrev pub AreRulesIfRead : Five (Option (List ℕ)) → Option FiveRules → Type 0
AreRulesIfRead texts (Some rules) = IsFalse (has_long texts) × AreRulesOf texts rules
AreRulesIfRead texts None = IsTrue (has_long texts) ⊎ IsOneRefused texts

-- ---- The samples of one text

-- the fault of a sample, if it has one
abbrev pub sample_faults : PluralCategory → SampleType → Option SampleFault → List Fault
sample_faults category type None = []
sample_faults category type (Some fault) = record { category = category; kind = Sample type fault } ∷ []

-- that fault, and this many numbers
abbrev pub sample_findings : PluralCategory → SampleType → Option SampleFault → ℕ → Findings
sample_findings category type fault count = record { faults = sample_faults category type fault; numbers = count }

abbrev pub IsFoundInRange : Option FiveRules → PluralCategory → SampleType → SampleRange → Findings → Type 0
IsFoundInRange rules category type range found =
    (fault : Option SampleFault) × (count : ℕ)
    × IsCheckedRange rules category range fault count × (found ≡ sample_findings category type fault count)

-- in a list, from left to right
abbrev pub IsFoundInList : Option FiveRules → PluralCategory → SampleType → Option SampleList → Findings → Type 0
IsFoundInList rules category type None found = found ≡ no_findings
IsFoundInList rules category type (Some list) found = EachFinds (IsFoundInRange rules category type) list.sample_ranges found

-- in the integers, then in the decimals
abbrev pub IsFoundInSamples : Option FiveRules → PluralCategory → Option samples.Samples → Findings → Type 0
IsFoundInSamples rules category None found = found ≡ no_findings
IsFoundInSamples rules category (Some lists) found =
    FindsBoth (IsFoundInList rules category Integer lists.integer) (IsFoundInList rules category Decimal lists.decimal) found

-- ---- One text

-- the rule that a text is read as and that can be packed, or why it gives none
abbrev pub IsReadAsRule : List ℕ → Result Rule RuleError → Type 0
IsReadAsRule text (Ok rule) = TextReads ReadsRule text rule × ((packed : List PackedRelation) × TextGives text (Ok packed))
IsReadAsRule text (Err error) = TextGives text (Err error)

-- `integer` and `decimal` name the types of lists
abbrev pub is_list_type : Token → Bool
is_list_type token.Integer = true
is_list_type token.Decimal = true
is_list_type other = false

-- one list of integers at most, and then one of decimals at most
abbrev pub are_in_order : List Token → Bool
are_in_order [] = true
are_in_order (type ∷ []) = true
are_in_order (token.Integer ∷ token.Decimal ∷ []) = true
are_in_order types = false

-- whether the lists that the text names are in order
abbrev pub HasOrder : List ℕ → Bool → Type 0
HasOrder text ordered = (tokens : List Token) × AreTokensOf text tokens × (ordered ≡ are_in_order (filter is_list_type tokens))

-- the text is a rule as a whole, and its lists are out of order
abbrev pub IsOutOfOrder : List ℕ → Type 0
IsOutOfOrder text = TextIsRule text × HasOrder text false

-- the text has the tokens of the printed rule; if not, its lists are out of order, or part of the
-- text isn't read
abbrev pub IsFoundInReading : PluralCategory → List ℕ → Rule → Findings → Type 0
IsFoundInReading category text rule found =
    (HaveSameTokens text (rule_text rule) × (found ≡ no_findings))
    ⊎ ((HaveOtherTokens text (rule_text rule) × IsOutOfOrder text
    × (found ≡ fault_alone (record { category = category; kind = Order })))
    ⊎ (HaveOtherTokens text (rule_text rule) × (¬ (IsOutOfOrder text))
    × (found ≡ fault_alone (record { category = category; kind = Partly (rule_text rule) }))))

-- the text of other has only samples
abbrev pub condition_findings : PluralCategory → List AndCondition → Findings
condition_findings Other (group ∷ groups) = fault_alone (record { category = Other; kind = Condition })
condition_findings category groups = no_findings

abbrev pub IsFoundInCondition : PluralCategory → Rule → Findings → Type 0
IsFoundInCondition category rule found = found ≡ condition_findings category rule.condition.0

-- the text gives no rule, and has its fault at this byte; or it gives one, which is checked
abbrev pub IsFoundInRule : Option FiveRules → PluralCategory → List ℕ → Findings → Type 0
IsFoundInRule rules category text found =
    ((kind : ParseError) × (byte : ℕ) × IsReadAsRule text (Err (Parse kind)) × TextFaultyAt text kind byte
    × (found ≡ fault_alone (record { category = category; kind = Unread kind byte })))
    ⊎ ((rule : Rule) × IsReadAsRule text (Ok rule)
    × FindsBoth (IsFoundInReading category text rule)
    (FindsBoth (IsFoundInCondition category rule) (IsFoundInSamples rules category rule.samples)) found)

-- a long text isn't read
abbrev pub IsFoundInCategoryText : Option FiveRules → PluralCategory → List ℕ → Findings → Type 0
IsFoundInCategoryText rules category text found =
    (IsTrue (is_long text) × (found ≡ fault_alone (record { category = category; kind = TooLong (length text) })))
    ⊎ (IsFalse (is_long text) × IsFoundInRule rules category text found)

-- in a text, if it is present
abbrev pub IsFoundIn : Option FiveRules → PluralCategory → Option (List ℕ) → Findings → Type 0
IsFoundIn rules category None found = found ≡ no_findings
IsFoundIn rules category (Some text) found = IsFoundInCategoryText rules category text found

-- ---- All six

abbrev pub IsFoundInSix : Option FiveRules → SixTexts → Findings → Type 0
IsFoundInSix rules texts =
    FindsBoth (IsFoundIn rules Zero texts.five.zero) (FindsBoth (IsFoundIn rules One texts.five.one)
    (FindsBoth (IsFoundIn rules Two texts.five.two) (FindsBoth (IsFoundIn rules Few texts.five.few)
    (FindsBoth (IsFoundIn rules Many texts.five.many) (IsFoundIn rules Other texts.other)))))

-- under the rules, if there are any
abbrev pub AreFindingsUnder : Option FiveRules → SixTexts → Report → Type 0
AreFindingsUnder rules texts report = (found : Findings) × IsFoundInSix rules texts found × IsReportOfFindings found report

-- under the rules of the texts themselves
abbrev pub AreFindingsOf : SixTexts → Report → Type 0
AreFindingsOf texts report = (rules : Option FiveRules) × AreRulesIfRead texts.five rules × AreFindingsUnder rules texts report
