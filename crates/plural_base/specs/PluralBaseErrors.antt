-- The texts of the errors of JSON values (docs/JSON.md), of rules as bytes (docs/FORMATS.md), of
-- packing elements and of sure categories.
use Rattle.std.specs.Prelude.{ℕ, List, ◌++◌, codes, Option, Some, None}
use Rattle.std.specs.Fmt.{decimal}
use Rattle.fixed_decimal.specs.Written.{error_text}
use Rattle.packed_list.specs.ListBytes.{list_error_text}
use Rattle.plural_runtime.specs.PackedRelations.{rule_bytes_error_text}
use Rattle.plural_runtime.specs.RuleOfText.{rule_error_text}
use Rattle.plural_base.specs.declared.category.PluralCategory.{PluralCategory}
use Rattle.plural_base.specs.Categories.{name_of}
use Rattle.plural_base.specs.declared.elements_pack_error.ElementsPackError.{ElementsPackError}
use Rattle.plural_base.specs.declared.elements_pack_error.ElementsPackError.TheVariants as packing
use Rattle.plural_base.specs.declared.rules.bytes.error.RulesBytesError.{RulesBytesError}
use Rattle.plural_base.specs.declared.rules.bytes.error.RulesBytesError.TheVariants as errors
use Rattle.plural_base.specs.declared.rules.bytes.error.RulesPackError.{RulesPackError}
use Rattle.plural_base.specs.declared.rules.bytes.error.RulesPackError.TheVariants as limits
use Rattle.plural_base.specs.declared.json.error.JsonError.{JsonError}
use Rattle.plural_base.specs.declared.json.error.JsonError.TheVariants.{Float, Shape, Rule, RangeKey, RangeValue, Pack, Memory}
use Rattle.plural_base.specs.declared.sure_choice.SureCategoryError.{SureCategoryError}
use Rattle.plural_base.specs.declared.sure_choice.SureCategoryError.TheVariants as sure

-- why elements can't be packed
abbrev pub elements_pack_error_text : ElementsPackError → List ℕ
elements_pack_error_text packing.DefaultLimit = codes "default too long"
elements_pack_error_text packing.StartLimit = codes "elements too long"
elements_pack_error_text packing.Memory = codes "out of memory"

-- why bytes aren't rules
abbrev pub rules_bytes_error_text : RulesBytesError → List ℕ
rules_bytes_error_text (errors.List fault) = list_error_text fault
rules_bytes_error_text (errors.ItemEmpty place) = codes "rule " ++ decimal place ++ codes " without a byte"
rules_bytes_error_text (errors.Key place) = codes "bad key of rule " ++ decimal place
rules_bytes_error_text (errors.Rule place fault) = codes "rule " ++ decimal place ++ codes ": " ++ rule_bytes_error_text fault

-- why rules can't be packed
abbrev pub rules_pack_error_text : RulesPackError → List ℕ
rules_pack_error_text limits.StartLimit = codes "rules too long"
rules_pack_error_text limits.Memory = codes "out of memory"

-- the category, if one is named
abbrev pub rule_place_text : Option PluralCategory → List ℕ
rule_place_text None = codes "rule: "
rule_place_text (Some category) = codes "rule " ++ name_of category ++ codes ": "

-- why a JSON value is refused
abbrev pub json_error_text : JsonError → List ℕ
json_error_text Float = codes "float"
json_error_text Shape = codes "shape"
json_error_text (Rule category fault) = rule_place_text category ++ rule_error_text fault
json_error_text RangeKey = codes "range key"
json_error_text RangeValue = codes "range value"
json_error_text (Pack fault) = elements_pack_error_text fault
json_error_text Memory = codes "out of memory"

-- why there is no sure category
abbrev pub sure_category_error_text : SureCategoryError → List ℕ
sure_category_error_text (sure.Rules fault) = codes "rule " ++ name_of fault.category ++ codes ": " ++ rule_error_text fault.error
sure_category_error_text (sure.Number fault) = error_text fault
sure_category_error_text sure.OutsideBound = codes "outside the exactness bound"
