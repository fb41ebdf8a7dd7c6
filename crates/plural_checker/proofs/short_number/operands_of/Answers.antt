use Rattle.std.proofs.Common.{◌<◌, ◌^◌, arith}
use Rattle.plural_checker.proofs.StepTexts.{writes_computed}
use Rattle.plural_checker.proofs.TrailingZeros.{power_above}
use Rattle.plural_checker.proofs.short_number.operands_of.Goals as goal

pub nonzero_rem-written : goal.nonzero_rem-written
nonzero_rem-written c = let positive : 0 < 10 ^ c.args.places = power_above c.args.places in omega arith

pub nonzero_div-parts : goal.nonzero_div-parts
nonzero_div-parts c = let positive : 0 < 10 ^ c.args.places = power_above c.args.places in omega arith

pub returns : goal.returns
returns c =
    writes_computed c.args.places c.args.parts c.pow-unit.result c.without_zeros-w.result.0 c.without_zeros-w.result.1 c.from.result
    c.requires.places c.requires.parts c.pow-unit.ensures c.from.ensures c.without_zeros-w.ensures.divides
    c.without_zeros-w.ensures.least c.without_zeros-w.ensures.number
