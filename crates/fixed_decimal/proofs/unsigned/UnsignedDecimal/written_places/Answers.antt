use Rattle.std.proofs.Common.{subst}
use Rattle.fixed_decimal.specs.Places.{IsWritten}
use Rattle.fixed_decimal.proofs.Spans.{written}
use Rattle.fixed_decimal.proofs.unsigned.UnsignedDecimal.written_places.Goals as goal

pub returns-clause-written : goal.returns-clause-written
returns-clause-written c = subst IsWritten c.self.view_is (written c.self.inside c.self.invariant)
