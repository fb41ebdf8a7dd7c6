use Rattle.std.proofs.Common.{◌^◌, ◌<◌, ◌∙◌, length, ap, arith, rules}
use Rattle.std.specs.Int.{w128, trailing_zeros}
use Rattle.plural_base.specs.Inner.Masks.{has_bit}
use Rattle.plural_base.proofs.integers.Bits.{first_of_mask, has-none, smaller}
use Rattle.plural_base.proofs.integers.Writes.{one_more}
use Rattle.plural_base.proofs.rules.told.write_each.Goals as goal

pub returns-then-place-entries : goal.returns-then-place-entries
returns-then-place-entries c = λ place h inside.
    let left = c.loop-left.left in
    let above : 0 < left = omega (arith, c.loop-left-test.true) in
    let fits : left < 2 ^ 128 = search rules in
    let there : place < length c.loop-left.entries = omega (arith, inside, c.loop-left.auto.entries) in
    let before : place < trailing_zeros w128 left = omega (arith, there, c.if-place-entries.true) in
    c.loop-left.invariant.done place h there ((first_of_mask left above fits).2 place before)

pub loop-left-smaller : goal.loop-left-smaller
loop-left-smaller c =
    let above : 0 < c.loop-left.left = omega (arith, c.loop-left-test.true) in
    smaller c.loop-left.left above

pub loop-left-preserved : goal.loop-left-preserved
loop-left-preserved c =
    let left = c.loop-left.left in
    let above : 0 < left = omega (arith, c.loop-left-test.true) in
    let fits : left < 2 ^ 128 = search rules in
    let inside : trailing_zeros w128 left < length c.loop-left.entries = omega (arith, c.if-place-entries.false) in
    one_more c.args.entries.now c.loop-left.entries c.args.places left c.args.entry above fits inside c.loop-left.invariant

pub returns : goal.returns
returns c = λ place h inside.
    let there : place < length c.loop-left.entries = omega (arith, inside, c.loop-left.auto.entries) in
    c.loop-left.invariant.done place h there (ap (λ left. has_bit left place) c.loop-left-test.false ∙ has-none place)
