-- What is read of a condition, relation by relation.
--     Before      the and-conditions that are complete, and the relations of the open one
--     nothing      none yet
--     joined is_after_or before relation      the relation too: after `or` it begins an and-condition
--     condition_of before      the condition that ends here
--     IsReadBy Holds text sink result      the text is read, and the sink holds its relations, or
--         it has this fault, or memory ran out
use Rattle.std.specs.Prelude.{ℕ, List, [], ◌∷◌, ◌++◌, Bool, if◌then◌else◌, Result, Ok, Err, MatchResult}
use Rattle.plural_reference.specs.declared.ast.AndCondition.{AndCondition}
use Rattle.plural_reference.specs.declared.ast.Condition.{Condition}
use Rattle.plural_reference.specs.declared.ast.Expression.{Expression}
use Rattle.plural_reference.specs.declared.ast.Operator.{Operator}
use Rattle.plural_reference.specs.declared.ast.RangeListItem.{RangeListItem}
use Rattle.plural_reference.specs.declared.ast.Relation.{Relation}
use Rattle.plural_reference.specs.declared.error.ReadError.{ReadError}
use Rattle.plural_reference.specs.Reading.{AnswersExactly}
use Rattle.plural_reference.specs.Samples.{ReadsCondition, FaultyRule}

-- what is complete before the relation that is being read
pub record Before : Type 0 where
  pub groups : List AndCondition
  pub relations : List Relation

abbrev pub nothing : Before
nothing = record { groups = []; relations = [] }

-- the relation joins the open and-condition
abbrev pub with_relation : Before → Relation → Before
with_relation b r = record { groups = b.groups; relations = b.relations ++ r ∷ [] }

-- the open and-condition is complete
abbrev pub with_group : Before → Before
with_group b = record { groups = b.groups ++ (record { 0 = b.relations }) ∷ []; relations = [] }

abbrev pub relation_of_parts : Expression → Operator → List RangeListItem → Relation
relation_of_parts e op ranges = record { expression = e; operator = op; range_list = record { 0 = ranges } }

abbrev pub joined : Bool → Before → Relation → Before
joined is_after_or b r = with_relation (if is_after_or then with_group b else b) r

-- the and-conditions, with the open one if it has relations
abbrev pub closed : List AndCondition → List Relation → List AndCondition
closed groups [] = groups
closed groups (r ∷ rs) = groups ++ (record { 0 = r ∷ rs }) ∷ []

abbrev pub condition_of : Before → Condition
condition_of b = record { 0 = closed b.groups b.relations }

-- ---- Reading into a sink

-- what the text gives if the condition is read as this one
abbrev pub GivesCondition : List ℕ → Result Condition ReadError → Type 0
GivesCondition text result = AnswersExactly ReadsCondition FaultyRule text result

abbrev pub IsReadBy : {S U : Type 0} → (S → Before → Type 0) → List ℕ → S → Result U ReadError → Type 0
IsReadBy Holds text sink result = MatchResult result
    (λ _. (before : Before) × Holds sink before × GivesCondition text (Ok (condition_of before)))
    (λ e. GivesCondition text (Err e))
