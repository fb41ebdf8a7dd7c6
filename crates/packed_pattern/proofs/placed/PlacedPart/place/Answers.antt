use Rattle.std.proofs.Common.{arith}
use Rattle.std.proofs.lemmas.Grind.{common_steps}
use Rattle.packed_pattern.proofs.placed.PlacedPart.place.Goals as goal

pub returns-in-len2-up-clause-place : goal.returns-in-len2-up-clause-place
returns-in-len2-up-clause-place c = grind (arith, common_steps)
