use Rattle.std.proofs.Common.{arith}
use Rattle.std.proofs.lemmas.Grind.{common_steps}
use Rattle.message_pattern.proofs.head.behind_name.Goals as goal

pub returns-in-44-clause-head : goal.returns-in-44-clause-head
returns-in-44-clause-head c = grind (arith, common_steps)
