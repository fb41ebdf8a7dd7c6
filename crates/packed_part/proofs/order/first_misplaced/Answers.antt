use Rattle.std.proofs.Common.{arith}
use Rattle.std.proofs.lemmas.Grind.{common_steps}
use Rattle.packed_part.proofs.order.first_misplaced.Goals as goal

pub may_follow-requires-clause-before : goal.may_follow-requires-clause-before
may_follow-requires-clause-before c = grind (arith, common_steps)

pub may_follow-requires-clause-part : goal.may_follow-requires-clause-part
may_follow-requires-clause-part c = grind (arith, common_steps)
