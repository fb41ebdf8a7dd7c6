use Rattle.std.proofs.Common.{◌≡◌, ap, sym, subst, ◌∙◌, length, arith}
use Rattle.std.proofs.lemmas.Int.{to_z-of_z}
use Rattle.fixed_decimal.specs.Places.{Places, IsWritten}
use Rattle.fixed_decimal.proofs.Spans.{written, length-whole, whole_place}
use Rattle.fixed_decimal.proofs.unsigned.UnsignedDecimal.digit_at.Goals as goal

pub returns-then-magnitude-lt0-clause-written : goal.returns-then-magnitude-lt0-clause-written
returns-then-magnitude-lt0-clause-written c = subst IsWritten c.self.view_is (written c.self.inside c.self.invariant)

pub returns-then-power-places-clause-digit : goal.returns-then-power-places-clause-digit
returns-then-power-places-clause-digit c =
    let places : length c.args.self.now.whole ≡ c.self.inside.whole_places
    = ap (λ (x : Places). length x.whole) (sym c.self.view_is) ∙ length-whole c.self.inside c.self.invariant in
    grind (arith, to_z-of_z, whole_place)

pub returns-then-power-places-clause-written : goal.returns-then-power-places-clause-written
returns-then-power-places-clause-written c = subst IsWritten c.self.view_is (written c.self.inside c.self.invariant)

pub returns-else-power-places-clause-written : goal.returns-else-power-places-clause-written
returns-else-power-places-clause-written c = subst IsWritten c.self.view_is (written c.self.inside c.self.invariant)
