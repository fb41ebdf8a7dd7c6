-- What a JSON value means as rules, or why it is refused, and the one JSON value that is written
-- for rules (docs/JSON.md). Values are what serde_json's accessors show of them.
use Rattle.std.specs.Prelude.{ℕ, List, Option, Some, None, is_some, Ok, Err, if◌then◌else◌}
use Rattle.std.specs.Option.{option_and_then}
use Rattle.plural_reference.specs.Serializer.{condition_text}
use Rattle.plural_runtime.specs.PackedRelations.{PackedRelation}
use Rattle.plural_runtime.specs.PackedTree.{unpacked}
use Rattle.plural_runtime.specs.RuleOfText.{RuleAnswer, rule_of_text}
use Rattle.plural_base.specs.declared.category.PluralCategory.{PluralCategory}
use Rattle.plural_base.specs.declared.category.PluralCategory.TheVariants.{Zero, One, Two, Few, Many}
use Rattle.plural_base.specs.Categories.{name_of}
use Rattle.plural_base.specs.declared.json.error.JsonError.TheVariants.{Shape, Rule}
use Rattle.plural_base.specs.declared.five.Five.{Five}
use Rattle.plural_base.specs.FiveRules.{five, FiveRules}
use Rattle.plural_base.specs.Json.{Stands, ◌>>=◌, all_five, unless_float}
use Rattle.serde_json.specs.Data.{Data, null, string, object, no_members, member}
use Rattle.serde_json.specs.Find.{get, as_null, as_str, as_object}

-- ---- Reading rules

-- what a text gives; a refusal names the category whose rule it would be
abbrev pub naming_category : Option PluralCategory → RuleAnswer → Stands (List PackedRelation)
naming_category category (Ok rule) = Ok rule
naming_category category (Err fault) = Err (Rule category fault)

abbrev pub text_meant : Option PluralCategory → Option (List ℕ) → Stands (List PackedRelation)
text_meant category None = Err Shape
text_meant category (Some text) = naming_category category (rule_of_text text)

-- a rule is a text
abbrev pub rule_meant : Option PluralCategory → Data → Stands (List PackedRelation)
rule_meant category value = text_meant category (as_str value)

-- a rule that may be absent or null
abbrev pub optional_meant : PluralCategory → Option Data → Stands (Option (List PackedRelation))
optional_meant category None = Ok None
optional_meant category (Some value) =
    if is_some (as_null value) then Ok None else rule_meant (Some category) value >>= λ rule. Ok (Some rule)

-- the rule under the name of its category
abbrev pub member_meant : PluralCategory → Data → Stands (Option (List PackedRelation))
member_meant category value = optional_meant category (get (name_of category) value)

-- five rules are an object, read from zero to many; its other keys aren't read
abbrev pub rules_meant : Data → Stands FiveRules
rules_meant value =
    if is_some (as_object value)
    then all_five (member_meant Zero value) (member_meant One value) (member_meant Two value) (member_meant Few value)
    (member_meant Many value)
    else Err Shape

-- the rule of a value
abbrev pub rule_of_json : Data → Stands (List PackedRelation)
rule_of_json = unless_float (rule_meant None)

-- the five rules of a value
abbrev pub rules_of_json : Data → Stands FiveRules
rules_of_json = unless_float rules_meant

-- the text under the name of a category
abbrev pub text_under : PluralCategory → Data → Option (List ℕ)
text_under category value = option_and_then as_str (get (name_of category) value)

-- the texts under the five names
abbrev pub texts_in : Data → Five (Option (List ℕ))
texts_in value =
    five (text_under Zero value) (text_under One value) (text_under Two value) (text_under Few value) (text_under Many value)

-- ---- Writing rules

-- a rule is its printed text
abbrev pub rule_json : List PackedRelation → Data
rule_json rule = string (condition_text (unpacked rule))

-- an absent one is null
abbrev pub optional_rule_json : Option (List PackedRelation) → Data
optional_rule_json None = null
optional_rule_json (Some rule) = rule_json rule

-- an object with the five names and no others, in the order of their bytes
abbrev pub object_of : Five Data → Data
object_of values = object (
    member (name_of Few) values.few (member (name_of Many) values.many (member (name_of One) values.one
    (member (name_of Two) values.two (member (name_of Zero) values.zero no_members)))))

-- five rules are all five names with a rule or null
abbrev pub rules_json : FiveRules → Data
rules_json rules = object_of (five
    (optional_rule_json rules.zero) (optional_rule_json rules.one) (optional_rule_json rules.two)
    (optional_rule_json rules.few) (optional_rule_json rules.many))
