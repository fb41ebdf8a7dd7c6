use Rattle.std.proofs.Common.{◌≡◌, ◌+◌, ◌-◌, ◌<◌, ℕ, length, subst, sym, arith}
use Rattle.fixed_decimal.specs.Places.{Places}
use Rattle.fixed_decimal.specs.FractionEnds.{IsTrimmed}
use Rattle.fixed_decimal.specs.Inner.UnsignedInside.{places_of}
use Rattle.fixed_decimal.proofs.Ends.{trim_view, trim_zero}
use Rattle.fixed_decimal.proofs.unsigned.UnsignedDecimal.trim_end.Goals as goal

pub returns-then-is_empty : goal.returns-then-is_empty
returns-then-is_empty c =
    let a = c.self.inside in
    let none : length a.span.items ≡ 0 = grind arith in
    subst (λ (x : Places). IsTrimmed x (places_of (record a { leading_zeros = 0; fraction_places = 0 }))) c.self.view_is
    (trim_zero a c.self.invariant none)

pub returns-else-is_empty : goal.returns-else-is_empty
returns-else-is_empty c =
    let a = c.self.inside in
    let some : 0 < length a.span.items = grind arith in
    let places : a.leading_zeros + length a.span.items - a.whole_places ≡ c.saturating_sub-self-inside.result = grind arith in
    subst (λ (x : Places). IsTrimmed x (places_of (record a { fraction_places = c.saturating_sub-self-inside.result }))) c.self.view_is
    (subst (λ (f : ℕ). IsTrimmed (places_of a) (places_of (record a { fraction_places = f }))) places
    (trim_view a c.self.invariant some))
