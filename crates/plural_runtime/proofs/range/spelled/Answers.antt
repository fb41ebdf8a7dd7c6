use Rattle.std.proofs.Common.{arith}
use Rattle.plural_runtime.proofs.bytes.ItemBytes.{range_spelled}
use Rattle.plural_runtime.proofs.range.spelled.Goals as goal

pub returns : goal.returns
returns c = range_spelled c.args.bytes.now (λ i. omega (arith, c.type_inv.bytes i)) c.requires
