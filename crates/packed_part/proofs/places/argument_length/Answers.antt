use Rattle.std.proofs.Common.{arith}
use Rattle.std.proofs.lemmas.Grind.{common_steps}
use Rattle.packed_part.proofs.places.argument_length.Goals as goal

pub returns-then-not-is_selector-clause-length : goal.returns-then-not-is_selector-clause-length
returns-then-not-is_selector-clause-length c = grind (arith, common_steps)

pub returns-then-not-is_selector-clause-few : goal.returns-then-not-is_selector-clause-few
returns-then-not-is_selector-clause-few c = grind (arith, common_steps)

pub returns-clause-length : goal.returns-clause-length
returns-clause-length c = grind (arith, common_steps)

pub returns-clause-few : goal.returns-clause-few
returns-clause-few c = grind (arith, common_steps)
