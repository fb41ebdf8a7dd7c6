use Rattle.std.proofs.Common.{arith}
use Rattle.std.proofs.lemmas.Grind.{common_steps}
use Rattle.packed_part.proofs.places.branch_place.Goals as goal

pub returns-then-is_sought-clause-place : goal.returns-then-is_sought-clause-place
returns-then-is_sought-clause-place c = grind (arith, common_steps)

pub returns-then-is_sought-clause-few : goal.returns-then-is_sought-clause-few
returns-then-is_sought-clause-few c = grind (arith, common_steps)

pub returns-then-not-is_selector-clause-place : goal.returns-then-not-is_selector-clause-place
returns-then-not-is_selector-clause-place c = grind (arith, common_steps)

pub returns-then-not-is_selector-clause-few : goal.returns-then-not-is_selector-clause-few
returns-then-not-is_selector-clause-few c = grind (arith, common_steps)

pub returns-clause-place : goal.returns-clause-place
returns-clause-place c = grind (arith, common_steps)

pub returns-clause-few : goal.returns-clause-few
returns-clause-few c = grind (arith, common_steps)
