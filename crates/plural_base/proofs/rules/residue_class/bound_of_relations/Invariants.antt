use Rattle.std.proofs.Common.{◌≡◌}
use Rattle.std.specs.Prelude.{flat_map, max}
use Rattle.plural_base.specs.ToldCategories.{ends_of_relation, first_above}
use Rattle.plural_base.proofs.rules.residue_class.bound_of_relations.Given as goal

-- with the relations that are left it is the bound of all
abbrev pub invariant-loop-item : goal.invariant-loop-item
invariant-loop-item l = max l.bound (first_above (flat_map ends_of_relation l.item-iterator)) ≡ first_above (flat_map ends_of_relation l.rule)
