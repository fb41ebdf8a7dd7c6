use Rattle.std.proofs.Common.{arith}
use Rattle.std.proofs.lemmas.Grind.{common_steps}
use Rattle.packed_part.proofs.places.places_of.Goals as goal

pub of_two-requires-clause-first : goal.of_two-requires-clause-first
of_two-requires-clause-first c = grind (arith, common_steps)

pub of_two-requires-clause-second : goal.of_two-requires-clause-second
of_two-requires-clause-second c = grind (arith, common_steps)
