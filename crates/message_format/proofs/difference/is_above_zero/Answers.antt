use Rattle.message_format.proofs.Columns.{first_above}
use Rattle.message_format.proofs.difference.is_above_zero.Goals as goal

pub returns-then-first-ne0 : goal.returns-then-first-ne0
returns-then-first-ne0 c = first_above c.zeros.left.now _ c.in-len1-up.len_at_least c.if-first-ne0.true c.zeros.invariant
