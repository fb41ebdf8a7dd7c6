use Rattle.std.proofs.Common.{◌≡◌, ◌+◌, ◌-◌, ◌*◌, ◌^◌, ◌<◌, get_or, arith, rules, ap}
use Rattle.std.specs.Char.{IsAsciiDigit}
use Rattle.plural_operands.proofs.numbers.ShortReading.{leaves_room, one_digit_more}
use Rattle.number_lines.proofs.plain.front_digits.Goals as goal

pub overflow_mul-number : goal.overflow_mul-number
overflow_mul-number c =
    let room : c.loop-at.number * 10 + 9 < 10 ^ 18
    = leaves_room c.args.bytes.now c.loop-at.at c.loop-at.number (omega arith) (omega arith) c.loop-at.invariant.so_far in
    omega arith

pub overflow_add-number : goal.overflow_add-number
overflow_add-number c =
    let room : c.loop-at.number * 10 + 9 < 10 ^ 18
    = leaves_room c.args.bytes.now c.loop-at.at c.loop-at.number (omega arith) (omega arith) c.loop-at.invariant.so_far in
    let digit : IsAsciiDigit (get_or c.args.bytes.now c.loop-at.at 0) = c.if-is_ascii_digit.ensures.cases in
    let value : c.from.result ≡ get_or c.args.bytes.now c.loop-at.at 0 - 48 = search rules in
    omega (arith, digit)

pub loop-at-preserved : goal.loop-at-preserved
loop-at-preserved c =
    let value : c.from.result ≡ get_or c.args.bytes.now c.loop-at.at 0 - 48 = search rules in
    record {
      few = omega arith;
      so_far =
          one_digit_more c.args.bytes.now c.loop-at.at c.loop-at.number _ (omega arith) c.loop-at.invariant.so_far
          c.if-is_ascii_digit.ensures.cases (ap (λ d. c.loop-at.number * 10 + d) value);
    }
