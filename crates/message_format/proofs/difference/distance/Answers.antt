use Rattle.std.proofs.Common.{◌≡◌, ◌+◌, ◌-◌, rules, arith}
use Rattle.fixed_decimal.specs.declared.sign.Sign.TheVariants as sign
use Rattle.message_format.proofs.Distances.{AreColumns, sum_distance, rest_distance, turned_distance}
use Rattle.message_format.proofs.difference.distance.Goals.{After-max}
use Rattle.message_format.proofs.difference.distance.Goals as goal

-- the columns
columns : (c : After-max)
    → AreColumns c.args.number.now c.args.offset.now c.max-most.result c.max.result (c.max-most.result + c.max.result)
    (c.max-most.result - c.places_after-whole.result.0) (c.max-most.result - c.places_after-offset_whole.result.0)
columns c =
    let w = c.places_after-whole.ensures.whole in
    let f = c.places_after-whole.ensures.fraction in
    let v = c.places_after-offset_whole.ensures.whole in
    let g = c.places_after-offset_whole.ensures.fraction in
    let m = c.max-most.ensures in
    let n = c.max.ensures in
    let some = c.places_after-whole.ensures.written.nonempty in
    record {
      whole = omega arith;
      other_whole = omega arith;
      some = some;
      most_places = omega arith;
      all_columns = omega arith;
      zeros = omega arith;
      other_zeros = omega arith;
    }

pub returns-then-eq : goal.returns-then-eq
returns-then-eq c =
    let negative : c.args.number.now.sign ≡ sign.Negative = search rules in
    sum_distance c.args.number.now c.args.offset.now _ _ _ _ _ (columns (goal.at.returns-then-eq c).After-max)
    c.in_ok-digits_more.field-0.items negative c.in_ok-digits_more.ensures

pub returns-then-borrow-eq0 : goal.returns-then-borrow-eq0
returns-then-borrow-eq0 c =
    let positive : c.args.number.now.sign ≡ sign.Negative → ⊥ = search rules in
    rest_distance c.args.number.now c.args.offset.now _ _ _ _ _ (columns (goal.at.returns-then-borrow-eq0 c).After-max)
    c.in_ok-digits.digits.items c.in_ok-digits.borrow positive c.if-borrow-eq0.true c.in_ok-digits.ensures

pub returns : goal.returns
returns c =
    let positive : c.args.number.now.sign ≡ sign.Negative → ⊥ = search rules in
    turned_distance c.args.number.now c.args.offset.now _ _ _ _ _ (columns (goal.at.returns c).After-max) c.in_ok-digits.digits.items
    c.in_ok-digits-2.digits.items c.in_ok-digits.borrow c.in_ok-digits-2.field-0-1 positive
    c.if-borrow-eq0.false c.in_ok-digits.ensures c.in_ok-digits-2.ensures
