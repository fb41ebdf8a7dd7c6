use Rattle.std.proofs.Common.{◌^◌, ◌+◌, ◌<◌, ◌∙◌, ap, rules}
use Rattle.std.specs.Prelude.{◌&&◌, not, nat_lt, nat_le}
use Rattle.plural_base.specs.Inner.Masks.{has_bit}
use Rattle.plural_base.proofs.integers.Bits.{has-and, has-not, inside}
use Rattle.plural_base.proofs.rules.masks.between.Goals as goal

pub returns : goal.returns
returns c = λ k h.
    let fits : c.below-2.result < 2 ^ 128 = search rules in
    let start = c.from-2.ensures in
    let end = c.from.ensures in
    has-and c.below.result _ k
    ∙ ap (λ b. has_bit c.below.result k && b) (has-not c.below-2.result k fits h)
    ∙ ap (λ b. b && not (has_bit c.below-2.result k)) (c.below.ensures k h)
    ∙ ap (λ b. nat_lt k (c.from.result + 1) && not b) (c.below-2.ensures k h)
    ∙ inside c.from-2.result c.from.result k
    ∙ ap (λ s. nat_le s k && nat_le k c.from.result) start
    ∙ ap (λ e. nat_le c.args.start k && nat_le k e) end
