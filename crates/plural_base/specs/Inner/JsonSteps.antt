-- Not a definition of the subject: the error that the code makes from a rule's.
use Rattle.std.specs.Prelude.{◌≡◌, ⊤, ℕ, Option, fold, Some, None, Result, Ok, Err, List, [], ◌∷◌, ◌++◌, map, String, string_bytes}
use Rattle.std.specs.Cmp.Lexicographic.{slice_cmp}
use Rattle.std.specs.List.Sorted.{IsStrictlySortedBy}
use Rattle.std.specs.Ordering.{nat_cmp}
use Rattle.plural_runtime.specs.declared.error.RuleError.{RuleError}
use Rattle.plural_runtime.specs.declared.error.RuleError.TheVariants as fault
use Rattle.plural_base.specs.declared.category.PluralCategory.{PluralCategory}
use Rattle.plural_base.specs.declared.category.PluralCategory.TheVariants.{Zero, One, Two, Few, Many}
use Rattle.plural_base.specs.declared.json.error.JsonError.{JsonError}
use Rattle.plural_base.specs.declared.json.known_rules.KnownRule.{KnownRule}
use Rattle.plural_base.specs.declared.json.error.JsonError.TheVariants.{Rule, Memory}
use Rattle.plural_base.specs.declared.ranges.PluralRanges.{PluralRanges}
use Rattle.plural_base.specs.declared.category.raw.RawPluralCategory.{RawPluralCategory}
use Rattle.plural_base.specs.Categories.{all_raw_categories, name_of}
use Rattle.plural_base.specs.Ranges.{range_text, category_at}
use Rattle.plural_base.specs.RangesJson.{name_json}
use Rattle.plural_base.specs.RulesJson.{optional_rule_json}
use Rattle.serde_json.specs.Data.{Members, no_members, put}
use Rattle.std.specs.declared.alloc.Global.{Global}
use Rattle.plural_base.specs.declared.rules.data.PluralRulesData.{PluralRulesData}
use Rattle.plural_base.specs.DocumentJson.{Rows, found, row_of}
use Rattle.plural_base.specs.FiveRules.{FiveRules, rules_of}
use Rattle.plural_base.specs.Json.{Stands, ◌>>=◌, IsRefusal}
use Rattle.plural_runtime.specs.PackedRelations.{PackedRelation}
use Rattle.plural_runtime.specs.RuleOfText.{IsPackedFrom, rule_of_text}
use Rattle.serde_json.specs.Data.{Data}

-- out of memory names no category
abbrev pub refusal_of : Option PluralCategory → RuleError → JsonError
refusal_of category (fault.Parse kind) = Rule category (fault.Parse kind)
refusal_of category fault.StartLimit = Rule category fault.StartLimit
refusal_of category fault.Memory = Memory

-- ---- Not a definition of the subject: the members that the code puts for ranges, one after the
-- other.

-- a range that has a category is put
abbrev pub put_range : RawPluralCategory → RawPluralCategory → Members → Option RawPluralCategory → Members
put_range start end members None = members
put_range start end members (Some category) = put (range_text start end) (name_json category) members

-- those with this start
abbrev pub put_row : PluralRanges → Members → RawPluralCategory → Members
put_row ranges members start = fold (λ ms end. put_range start end ms (category_at ranges start end)) members all_raw_categories

-- all of them
abbrev pub range_members : PluralRanges → Members
range_members ranges = fold (put_row ranges) no_members all_raw_categories

-- ---- Not a definition of the subject: the members that the code puts for rules, one after the
-- other.

-- the values of the rules, put under the five names
abbrev pub rule_members : FiveRules → Members → Members
rule_members rules members =
    put (name_of Many) (optional_rule_json rules.many) (put (name_of Few) (optional_rule_json rules.few)
    (put (name_of Two) (optional_rule_json rules.two) (put (name_of One) (optional_rule_json rules.one)
    (put (name_of Zero) (optional_rule_json rules.zero) members))))

-- ---- Not a definition of the subject: the rows of a map of the provider from JSON.

-- a text and what it has, as a row
abbrev pub row_of_entry : {V : Type 0} → String Global × V → List ℕ × V
row_of_entry entry = (string_bytes entry.0, entry.1)

-- keys of bytes in order
abbrev pub Ascend : List (List ℕ) → Type 0
Ascend keys = IsStrictlySortedBy (slice_cmp nat_cmp) keys

-- each value as it is seen
abbrev pub rows_by : {V A : Type 0} → (V → A) → Rows V → Rows A
rows_by seen rows = map (λ row. (row.0, seen row.1)) rows

abbrev pub rows_of : Rows PluralRulesData → Rows FiveRules
rows_of = rows_by rules_of

abbrev pub range_rows_of : Rows PluralRanges → Rows PluralRanges
range_rows_of = rows_by (λ ranges. ranges)

-- ---- Not a definition of the subject: what is read for its refusals alone.

-- the value means something; otherwise the call returns its refusal, or runs out of memory
abbrev pub Passes : {A : Type 0} → Result ⊤ JsonError → Stands A → Type 0
Passes {A} (Ok _) stands = (x : A) × (stands ≡ Ok x)
Passes (Err error) stands = IsRefusal error stands

-- what the value means is put as the row of a locale behind the others; otherwise the call returns
-- its refusal, or runs out of memory
abbrev pub PutsRow : {A : Type 0} → List ℕ → Stands A → Rows A → Rows A → Result ⊤ JsonError → Type 0
PutsRow {A} locale stands before after (Ok _) = (x : A) × (stands ≡ Ok x) × (after ≡ before ++ (locale, x) ∷ [])
PutsRow locale stands before after (Err error) = IsRefusal error stands

-- the text gives this rule, by both definitions
abbrev pub GivesThis : List ℕ → List PackedRelation → Type 0
GivesThis text rule = (rule_of_text text ≡ Ok rule) × IsPackedFrom text (Ok rule)

-- a kept text and its rule
abbrev pub kept_rule : KnownRule → List ℕ × List PackedRelation
kept_rule known = (known.text.now, known.rule)

-- the row of a locale that has this value, if any
abbrev pub row_meant : {A : Type 0} → (Data → Stands A) → List ℕ → Option Data → Stands (Rows A)
row_meant meant locale None = Ok []
row_meant meant locale (Some value) = meant value >>= λ x. Ok ((locale, x) ∷ [])

-- the row of a locale alone
abbrev pub row_alone : {A : Type 0} → List ℕ → Stands (Rows A) → Stands (Rows A)
row_alone locale stands = stands >>= λ rows. Ok (row_of locale (found locale rows))
