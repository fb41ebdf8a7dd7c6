use Rattle.std.proofs.Common.{◌≡◌, ◌-◌, length, arith, subst, sym, ap, ◌∙◌}
use Rattle.fixed_decimal.specs.Places.{Places, IsWritten, shift_right}
use Rattle.fixed_decimal.proofs.Spans.{written, shifted_whole, shifted_fraction}
use Rattle.fixed_decimal.proofs.unsigned.UnsignedDecimal.places_after.Goals as goal

pub returns-clause-whole : goal.returns-clause-whole
returns-clause-whole c =
    sym (ap (λ (x : Places). length (shift_right c.args.exponent x).whole) (sym c.self.view_is)
    ∙ shifted_whole c.self.inside c.args.exponent c.self.invariant)

pub returns-clause-fraction : goal.returns-clause-fraction
returns-clause-fraction c =
    let moved : length (shift_right c.args.exponent c.args.self.now).fraction ≡ c.self.inside.fraction_places - c.args.exponent
    = ap (λ (x : Places). length (shift_right c.args.exponent x).fraction) (sym c.self.view_is)
    ∙ shifted_fraction c.self.inside c.args.exponent c.self.invariant in
    omega arith

pub returns-clause-written : goal.returns-clause-written
returns-clause-written c = subst IsWritten c.self.view_is (written c.self.inside c.self.invariant)
