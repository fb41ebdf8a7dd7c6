use Rattle.std.proofs.Common.{arith}
use Rattle.packed_format.proofs.BehindParts.{length-items}
use Rattle.packed_format.proofs.parts.BlockParts.of.Goals as goal

pub at-requires-clause-few : goal.at-requires-clause-few
at-requires-clause-few c = omega (arith, c.as_bytes.ensures.packed.can_pack.count, length-items c.args.pattern.now)

pub at-requires-clause-ordered : goal.at-requires-clause-ordered
at-requires-clause-ordered c = c.as_bytes.ensures.nested
