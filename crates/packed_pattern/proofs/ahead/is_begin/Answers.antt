use Rattle.std.proofs.Common.{arith}
use Rattle.std.proofs.lemmas.Grind.{common_steps}
use Rattle.packed_pattern.proofs.PartBytes.{begin_whole}
use Rattle.packed_pattern.proofs.ahead.is_begin.Goals as goal

pub returns-in-len1-up : goal.returns-in-len1-up
returns-in-len1-up c = λ t.
    let byte = c.type_inv.own 0 in
    begin_whole c.args.own.now c.in-len1-up.len_at_least (omega (arith, byte)) (grind (arith, common_steps, c.from.ensures, t))
