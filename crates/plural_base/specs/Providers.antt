-- What a provider returns, by three maps from locales: to cardinal rules, to ordinal rules and to
-- ranges. A locale is a text, compared byte by byte.
use Rattle.std.specs.Prelude.{◌≡◌, Option, Some, None, Result, Ok, Err, ◌⊎◌}
use Rattle.plural_base.specs.declared.provider.options.PluralRuleType.{PluralRuleType}
use Rattle.plural_base.specs.declared.provider.options.PluralRuleType.TheVariants.{Cardinal, Ordinal}
use Rattle.plural_base.specs.declared.provider.DataError.{DataError}
use Rattle.plural_base.specs.declared.ranges.PluralRanges.{PluralRanges}
use Rattle.plural_base.specs.declared.rules.PluralRules.{PluralRules}
use Rattle.plural_base.specs.declared.rules.data.PluralRulesData.{PluralRulesData}
use Rattle.plural_base.specs.FiveRules.{FiveRules, rules_of}

-- the rules if there are some, else NotFound
abbrev pub Loads : Option FiveRules → Result PluralRulesData DataError → Type 0
Loads there (Ok rules) = there ≡ Some (rules_of rules)
Loads there (Err error) = there ≡ None

-- as `Loads`, of rules that choose
abbrev pub Makes : Option FiveRules → Result PluralRules DataError → Type 0
Makes there (Ok rules) = there ≡ Some rules
Makes there (Err error) = there ≡ None

-- as `Loads`, of ranges
abbrev pub LoadsRanges : Option PluralRanges → Result PluralRanges DataError → Type 0
LoadsRanges there (Ok ranges) = there ≡ Some ranges
LoadsRanges there (Err error) = there ≡ None

-- the value for a type; no type means cardinal
abbrev pub value_for_type : {A : Type 0} → Option PluralRuleType → A → A → A
value_for_type None cardinal ordinal = cardinal
value_for_type (Some Cardinal) cardinal ordinal = cardinal
value_for_type (Some Ordinal) cardinal ordinal = ordinal

-- ---- Rules with the categories of ranges, made from a provider's.
--     WithRanges R      rules of some kind, and ranges
--     MakesBoth rules ranges result      both if both are present, else NotFound
--     MakesWith rules ranges result      these rules and the ranges if these are present, else
--         NotFound

pub record WithRanges (R : Type 0) : Type 0 where
  pub rules : R
  pub ranges : PluralRanges

abbrev pub MakesBoth : Option FiveRules → Option PluralRanges → Result (WithRanges FiveRules) DataError → Type 0
MakesBoth rules ranges (Ok made) = (rules ≡ Some made.rules) × (ranges ≡ Some made.ranges)
MakesBoth rules ranges (Err error) = (rules ≡ None) ⊎ (ranges ≡ None)

abbrev pub MakesWith : {R : Type 0} → R → Option PluralRanges → Result (WithRanges R) DataError → Type 0
MakesWith rules ranges (Ok made) = (made.rules ≡ rules) × (ranges ≡ Some made.ranges)
MakesWith rules ranges (Err error) = ranges ≡ None
