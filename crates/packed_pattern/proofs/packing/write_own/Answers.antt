use Rattle.std.proofs.Common.{arith}
use Rattle.std.proofs.lemmas.Grind.{common_steps}
use Rattle.packed_pattern.proofs.packing.write_own.Goals as goal

pub returns-in-Text-clause-written : goal.returns-in-Text-clause-written
returns-in-Text-clause-written c = grind (arith, common_steps)

pub returns-in-Text-clause-kept : goal.returns-in-Text-clause-kept
returns-in-Text-clause-kept c = grind (arith, common_steps)

pub returns-in-Hash-clause-written : goal.returns-in-Hash-clause-written
returns-in-Hash-clause-written c = grind (arith, common_steps)

pub returns-in-Hash-clause-kept : goal.returns-in-Hash-clause-kept
returns-in-Hash-clause-kept c = grind (arith, common_steps)

pub returns-in-Argument-clause-written : goal.returns-in-Argument-clause-written
returns-in-Argument-clause-written c = grind (arith, common_steps)

pub returns-in-Argument-clause-kept : goal.returns-in-Argument-clause-kept
returns-in-Argument-clause-kept c = grind (arith, common_steps)

pub returns-in-Begin-clause-written : goal.returns-in-Begin-clause-written
returns-in-Begin-clause-written c = grind (arith, common_steps)

pub returns-in-Begin-clause-kept : goal.returns-in-Begin-clause-kept
returns-in-Begin-clause-kept c = grind (arith, common_steps)

pub returns-in-Branch-clause-written : goal.returns-in-Branch-clause-written
returns-in-Branch-clause-written c = grind (arith, common_steps)

pub returns-in-Branch-clause-kept : goal.returns-in-Branch-clause-kept
returns-in-Branch-clause-kept c = grind (arith, common_steps)
