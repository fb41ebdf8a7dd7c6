use Rattle.std.proofs.Common.{◌≡◌, ◌-◌, ◌+◌, ◌<◌, refl, sym, subst, max, arith}
use Rattle.std.proofs.lemmas.Int.{to_z-of_z}
use Rattle.fixed_decimal.specs.Places.{Places, IsOverLimit}
use Rattle.fixed_decimal.specs.FractionEnds.{places_down_to}
use Rattle.fixed_decimal.specs.Rounding.{IsRounded, zeros_below}
use Rattle.fixed_decimal.specs.Inner.UnsignedInside.{places_of}
use Rattle.fixed_decimal.specs.declared.unsigned.UnsignedDecimal.TheInside.{Inside}
use Rattle.fixed_decimal.specs.declared.error.DecimalError.TheVariants.{Limit}
use Rattle.fixed_decimal.proofs.Refusals.{accepted}
use Rattle.fixed_decimal.proofs.RoundedInside.{IsPlan, plan_of, whole_of, rounded_over, raises_digit, rounded_stored, rounded_view, rounded_within}
use Rattle.fixed_decimal.proofs.unsigned.UnsignedDecimal.round_with_mode.Goals as goal
use Rattle.fixed_decimal.proofs.unsigned.UnsignedDecimal.round_with_mode.Goals.{After-max}

-- how many fraction places reach down to the place
fraction_is : (c : After-max) → c.places_down_to-fraction.result ≡ places_down_to c.args.position
fraction_is c = grind (arith, to_z-of_z)

-- how many integer places are below it
zeros_are : (c : After-max) → c.zeros_below-zeros.result ≡ zeros_below c.args.position
zeros_are c = grind (arith, to_z-of_z)

-- what is found before the number is changed
plan : (c : After-max) → IsPlan c.self.inside c.args.position c.args.mode c.saturating_sub-kept.result c.saturating_sub-gap.result
    c.rounded_end-end.result.0 c.rounded_end-end.result.1 c.rounded_places-places.result
plan c =
    plan_of c.self.inside c.args.position c.args.mode c.saturating_sub-kept.result c.saturating_sub-gap.result
    c.rounded_end-end.result.0 c.rounded_end-end.result.1 c.rounded_places-places.result
    c.places_down_to-fraction.result c.zeros_below-zeros.result c.as_slice.result.now
    (fraction_is c) (zeros_are c) (omega arith) (omega arith) c.rounded_places-places.ensures
    c.as_slice.ensures c.rounded_end-end.ensures

pub returns-then-max-clause-limit : goal.returns-then-max-clause-limit
returns-then-max-clause-limit c =
    let b = (goal.at.returns-then-max-clause-limit c).After-max in
    let e : c.places_down_to-fraction.result ≡ places_down_to c.args.position = fraction_is b in
    let over : 32767 < max (whole_of c.rounded_places-places.result (places_down_to c.args.position)) (places_down_to c.args.position)
    = omega arith in (
      λ same. subst (λ (y : Places). (x : Places) × IsRounded c.args.mode c.args.position y x × IsOverLimit x) c.self.view_is
          (rounded_over c.self.inside c.args.position c.args.mode _ _ _ _ _ c.self.invariant (plan b) over),
      λ some. refl,
    )

pub leave_rounded-requires-clause-some : goal.leave_rounded-requires-clause-some
leave_rounded-requires-clause-some c up =
    let b = (goal.at.leave_rounded-requires-clause-some c).After-max in
    (raises_digit c.self.inside c.args.position c.args.mode _ _ _ _ _ c.self.invariant (plan b) up).0

pub invariant_of-self : goal.invariant_of-self
invariant_of-self c =
    let b = (goal.at.invariant_of-self c).After-max in
    let e : c.places_down_to-fraction.result ≡ places_down_to c.args.position = fraction_is b in
    rounded_stored c.self.inside c.args.position c.args.mode _ _ _ _ _ c.self.invariant (plan b) _
    (omega arith) e (omega arith) c.leave_rounded.ensures (omega arith)

pub returns-clause-rounded : goal.returns-clause-rounded
returns-clause-rounded c =
    let b = (goal.at.returns-clause-rounded c).After-max in
    let e : c.places_down_to-fraction.result ≡ places_down_to c.args.position = fraction_is b in
    let after : Inside
    = record {
      whole_places = c.max-whole.result;
      fraction_places = c.places_down_to-fraction.result;
      leading_zeros = c.max-whole.result + c.places_down_to-fraction.result - c.rounded_places-places.result;
      span = c.leave_rounded.new.digits;
    } in
    subst (λ (y : Places). IsRounded c.args.mode c.args.position y (places_of after)) c.self.view_is
    (rounded_view c.self.inside c.args.position c.args.mode _ _ _ _ _ c.self.invariant (plan b) after
    (omega arith) e (omega arith) c.leave_rounded.ensures (omega arith))

pub returns-clause-limit : goal.returns-clause-limit
returns-clause-limit c =
    let b = (goal.at.returns-clause-limit c).After-max in
    let e : c.places_down_to-fraction.result ≡ places_down_to c.args.position = fraction_is b in
    let after : Inside
    = record {
      whole_places = c.max-whole.result;
      fraction_places = c.places_down_to-fraction.result;
      leading_zeros = c.max-whole.result + c.places_down_to-fraction.result - c.rounded_places-places.result;
      span = c.leave_rounded.new.digits;
    } in
    accepted _ Limit (λ some.
    rounded_within c.self.inside c.args.position c.args.mode _ _ _ _ _ c.self.invariant (plan b) after
    (omega arith) e (omega arith) c.leave_rounded.ensures (omega arith) some.0
    (subst (λ (y : Places). IsRounded c.args.mode c.args.position y some.0) (sym c.self.view_is) some.1) some.2)
