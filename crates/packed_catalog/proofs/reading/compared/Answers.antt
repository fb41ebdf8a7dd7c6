use Rattle.std.proofs.Common.{arith}
use Rattle.packed_catalog.proofs.SharedFronts.{below_at_difference, below_at_end}
use Rattle.packed_catalog.proofs.reading.compared.Goals as goal

pub returns-then-key-i-clause-below : goal.returns-then-key-i-clause-below
returns-then-key-i-clause-below c = λ known.
    below_at_difference c.loop-i.i c.args.key.now c.args.other.now (c.loop-i.invariant known) (omega arith) (omega arith) c.if-key-i.true

pub returns-clause-below : goal.returns-clause-below
returns-clause-below c = λ known.
    let at = c.loop-i.invariant known in
    below_at_end c.loop-i.i c.args.key.now c.args.other.now at (omega (arith, at.in_first, at.in_second))
