use Rattle.std.proofs.Common.{arith}
use Rattle.packed_format.proofs.BehindParts.{length-items}
use Rattle.packed_format.proofs.formatting.say_by.Goals as goal

pub say_from-requires-clause-few : goal.say_from-requires-clause-few
say_from-requires-clause-few g c = omega (arith, c.as_bytes.ensures.packed.can_pack.count, length-items c.args.pattern.now)
