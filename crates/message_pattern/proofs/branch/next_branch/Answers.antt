use Rattle.std.proofs.Common.{arith}
use Rattle.std.proofs.lemmas.Grind.{common_steps}
use Rattle.message_pattern.proofs.branch.next_branch.Goals as goal

pub returns-then-first-ne125-clause-branch : goal.returns-then-first-ne125-clause-branch
returns-then-first-ne125-clause-branch c = grind (arith, common_steps)
