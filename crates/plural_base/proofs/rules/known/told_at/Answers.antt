use Rattle.std.proofs.Common.{ℕ, subst, false, true}
use Rattle.plural_base.specs.Inner.Masks.{IsToldAt}
use Rattle.plural_base.specs.Inner.WholeNumbers.{range_or}
use Rattle.plural_base.proofs.rules.known.told_at.Goals as goal

pub returns : goal.returns
returns c = λ k value within fits.
    let known = c.args.known in
    let P : ℕ × ℕ → Type 0 = λ pair. IsToldAt k (range_or false known k value pair) (range_or true known k value pair) c.told_between.result in
    subst P c.ends_at-start.ensures (c.told_between.ensures k value within fits)
