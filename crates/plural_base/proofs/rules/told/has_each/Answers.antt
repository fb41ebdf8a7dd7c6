use Rattle.std.proofs.Common.{◌^◌, ◌<◌, ◌≤◌, arith, rules}
use Rattle.std.specs.Int.{w128, trailing_ones}
use Rattle.std.proofs.lemmas.Bool.{leb-true}
use Rattle.plural_base.proofs.integers.Bits.{ones_there}
use Rattle.plural_base.proofs.rules.told.has_each.Goals as goal

pub returns-then-places-ne0 : goal.returns-then-places-ne0
returns-then-places-ne0 c = λ is place h inside.
    let fits : c.args.places < 2 ^ 128 = search rules in
    let most : c.args.count ≤ c.trailing_ones.result = leb-true _ _ is in
    let below : place < trailing_ones w128 c.args.places = omega (arith, most, inside, c.trailing_ones.ensures) in
    ones_there c.args.places place fits h below
