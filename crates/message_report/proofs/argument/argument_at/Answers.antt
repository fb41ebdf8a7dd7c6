use Rattle.message_report.proofs.OwnBranches.{one_written, zero_written}
use Rattle.message_report.proofs.argument.argument_at.Goals as goal

pub is_own-requires-clause-number : goal.is_own-requires-clause-number
is_own-requires-clause-number c = zero_written

pub is_own-requires-2-clause-number : goal.is_own-requires-2-clause-number
is_own-requires-2-clause-number c = one_written
