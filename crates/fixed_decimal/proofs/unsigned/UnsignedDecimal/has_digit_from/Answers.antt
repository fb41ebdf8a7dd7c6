use Rattle.std.proofs.Common.{◌≡◌, ◌≢◌, ◌↔◌, ℕ, ◌+◌, ◌<◌, sym, pos, nat_abs, int_lt, true, false, length, arith, rules}
use Rattle.std.specs.Bool.{IsTrue, ◌==◌}
use Rattle.std.proofs.lemmas.Bool.{eqb-false}
use Rattle.std.proofs.lemmas.Int.{to_z-of_z}
use Rattle.fixed_decimal.specs.Places.{HasDigitFrom}
use Rattle.fixed_decimal.proofs.Highest.{from_below, from_above, none_from}
use Rattle.fixed_decimal.proofs.unsigned.UnsignedDecimal.has_digit_from.Goals as goal

-- what is false holds of no number
untrue : {P : Type 0} → ¬ P → (IsTrue false) ↔ P
untrue none = (λ never. absurd (cc never), λ p. absurd (none p))

-- a list that isn't empty has an item
not_empty : (n : ℕ) → (n == 0) ≡ false → 0 < n
not_empty n h = let some : n ≢ 0 = eqb-false n 0 h in omega arith

pub returns-then-is_empty : goal.returns-then-is_empty
returns-then-is_empty c =
    untrue (λ p.
    none_from c.self.inside c.args.self.now c.args.magnitude c.self.invariant c.self.view_is (search rules) p)

pub returns-then-magnitude-lt0 : goal.returns-then-magnitude-lt0
returns-then-magnitude-lt0 c =
    let some : 0 < length c.self.inside.span.items = not_empty (length c.self.inside.span.items) (sym c.if-is_empty.ensures) in
    let negative : int_lt c.args.magnitude (pos 0) ≡ true = grind (arith, to_z-of_z) in
    let power : c.unsigned_abs-power.result ≡ nat_abs c.args.magnitude = grind (arith, to_z-of_z) in
    let told : (c.self.inside.leading_zeros
    < c.self.inside.whole_places + nat_abs c.args.magnitude) ↔ HasDigitFrom c.args.self.now c.args.magnitude
    = from_below c.self.inside c.args.self.now c.args.magnitude c.self.invariant c.self.view_is some negative in (
      λ t. told.0 (grind arith),
      λ p. let l : c.self.inside.leading_zeros
          < c.self.inside.whole_places + nat_abs c.args.magnitude = told.1 p in grind arith,
    )

pub returns-else-magnitude-lt0 : goal.returns-else-magnitude-lt0
returns-else-magnitude-lt0 c =
    let some : 0 < length c.self.inside.span.items = not_empty (length c.self.inside.span.items) (sym c.if-is_empty.ensures) in
    let above : int_lt c.args.magnitude (pos 0) ≡ false = grind (arith, to_z-of_z) in
    let power : c.unsigned_abs-power.result ≡ nat_abs c.args.magnitude = grind (arith, to_z-of_z) in
    let told : (c.self.inside.leading_zeros + nat_abs c.args.magnitude
    < c.self.inside.whole_places) ↔ HasDigitFrom c.args.self.now c.args.magnitude
    = from_above c.self.inside c.args.self.now c.args.magnitude c.self.invariant c.self.view_is some above in (
      λ t. told.0 (grind arith),
      λ p. let l : c.self.inside.leading_zeros + nat_abs c.args.magnitude
          < c.self.inside.whole_places = told.1 p in grind arith,
    )
