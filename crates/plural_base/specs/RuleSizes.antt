-- How many relations and ranges rules have, and whether these are few.
use Rattle.std.specs.Prelude.{ℕ, ◌+◌, ◌≤◌, List, length, Option, Some, None}
use Rattle.plural_runtime.specs.PackedRelations.{PackedRelation}
use Rattle.plural_runtime.specs.PackedTruth.{range_count}
use Rattle.plural_base.specs.FiveRules.{FiveRules}

-- the relations of a rule, if present, and all their ranges
abbrev pub rule_size : Option (List PackedRelation) → ℕ
rule_size None = 0
rule_size (Some relations) = length relations + range_count relations

-- those of all five rules
abbrev pub rules_size : FiveRules → ℕ
rules_size rules = rule_size rules.zero + rule_size rules.one + rule_size rules.two + rule_size rules.few + rule_size rules.many

-- they are at most 64
abbrev pub HaveFewRanges : FiveRules → Type 0
HaveFewRanges rules = rules_size rules ≤ 64
