-- Not a definition of the subject: what an object has under the names of categories, found by one
-- walk over its members, and the rules of these values.
use Rattle.std.specs.Prelude.{Bool, true, false, ℕ, List, Option, Some, None, option_map}
use Rattle.std.specs.Borrow.{Bor}
use Rattle.std.specs.Option.{option_and_then}
use Rattle.plural_base.specs.declared.category.PluralCategory.TheVariants.{Zero, One, Two, Few, Many}
use Rattle.plural_base.specs.declared.category.by_category.ByCategory.{ByCategory}
use Rattle.plural_base.specs.declared.category.raw.RawPluralCategory.{RawPluralCategory}
use Rattle.plural_base.specs.declared.five.Five.{Five}
use Rattle.plural_base.specs.Categories.{name_of}
use Rattle.plural_base.specs.FiveRules.{five, FiveRules}
use Rattle.plural_base.specs.Json.{Stands, all_five}
use Rattle.plural_base.specs.Ranges.{at}
use Rattle.plural_base.specs.RulesJson.{optional_meant}
use Rattle.serde_json.specs.Data.{Data, Members}
use Rattle.serde_json.specs.Find.{as_str, get_member}
use Rattle.serde_json.specs.View.{view}
use Rattle.serde_json.specs.declared.Value.{Value}

-- what is lent for a category
abbrev pub lent_at : ByCategory (Option (Bor Value)) → RawPluralCategory → Option Data
lent_at values category = option_map (λ v. view v.now) (at values category)

-- the first of two that is there
abbrev pub kept_or : Option Data → Option Data → Option Data
kept_or None later = later
kept_or (Some value) later = Some value

-- a value, if its name is this one
abbrev pub if_named : Bool → Data → Option Data
if_named true value = Some value
if_named false value = None

-- what is lent for the five that have rules
abbrev pub five_lent : ByCategory (Option (Bor Value)) → Five (Option Data)
five_lent values =
    five (option_map (λ v. view v.now) values.zero) (option_map (λ v. view v.now) values.one) (option_map (λ v. view v.now) values.two)
    (option_map (λ v. view v.now) values.few) (option_map (λ v. view v.now) values.many)

-- what members have under the five names
abbrev pub five_under : Members → Five (Option Data)
five_under members =
    five (get_member (name_of Zero) members) (get_member (name_of One) members) (get_member (name_of Two) members)
    (get_member (name_of Few) members) (get_member (name_of Many) members)

-- the rules of five values
abbrev pub rules_at : Five (Option Data) → Stands FiveRules
rules_at values =
    all_five (optional_meant Zero values.zero) (optional_meant One values.one) (optional_meant Two values.two)
    (optional_meant Few values.few) (optional_meant Many values.many)

-- the texts among five values
abbrev pub texts_among_five : Five (Option Data) → Five (Option (List ℕ))
texts_among_five values =
    five (option_and_then as_str values.zero) (option_and_then as_str values.one) (option_and_then as_str values.two)
    (option_and_then as_str values.few) (option_and_then as_str values.many)
