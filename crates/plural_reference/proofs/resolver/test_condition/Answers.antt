use Rattle.std.proofs.Common.{◌≡◌, ◌==◌, length, false}
use Rattle.plural_reference.specs.Truth.{tree_relation_truth}
use Rattle.plural_reference.proofs.exactness.Folds.{is_true_of-map}
use Rattle.plural_reference.proofs.resolver.test_condition.Goals as goal

pub returns-else-is_empty : goal.returns-else-is_empty
returns-else-is_empty c =
    let some : (length c.args.condition.now.0 == 0) ≡ false = cc in
    let groups = is_true_of-map (tree_relation_truth c.args.operands.now) (λ group. group.0) c.args.condition.now.0 some in cc
