use Rattle.std.proofs.Common.{◌≡◌, List, ℕ, ◌+◌, ◌-◌, ◌*◌, ◌^◌, ◌<◌, get_or, drop, length, take, arith, rules, ap, ⊎_elim}
use Rattle.std.specs.Char.{IsAsciiDigit}
use Rattle.plural_operands.proofs.numbers.ShortReading.{leaves_room, one_digit_more, digit_at_place}
use Rattle.plural_operands.proofs.operands.short_text.front_of.Goals as goal
use Rattle.plural_operands.proofs.operands.short_text.front_of.Goals.{then-loop-at-test+else-is_ascii_digit, else-loop-at-test}

pub overflow_mul-number : goal.overflow_mul-number
overflow_mul-number c =
    let room : c.loop-at.number * 10 + 9 < 10 ^ 18
    = leaves_room c.args.text.now c.loop-at.at c.loop-at.number (omega arith) (omega arith) c.loop-at.invariant.so_far in
    omega arith

pub overflow_add-number : goal.overflow_add-number
overflow_add-number c =
    let room : c.loop-at.number * 10 + 9 < 10 ^ 18
    = leaves_room c.args.text.now c.loop-at.at c.loop-at.number (omega arith) (omega arith) c.loop-at.invariant.so_far in
    let digit : IsAsciiDigit (get_or c.args.text.now c.loop-at.at 0) = c.if-is_ascii_digit.ensures.cases in
    let value : c.from.result ≡ get_or c.args.text.now c.loop-at.at 0 - 48 = search rules in
    omega (arith, digit)

pub loop-at-preserved : goal.loop-at-preserved
loop-at-preserved c =
    let value : c.from.result ≡ get_or c.args.text.now c.loop-at.at 0 - 48 = search rules in
    record {
      within = omega arith;
      so_far =
          one_digit_more c.args.text.now c.loop-at.at c.loop-at.number _ (omega arith) c.loop-at.invariant.so_far
          c.if-is_ascii_digit.ensures.cases (ap (λ d. c.loop-at.number * 10 + d) value);
    }

pub returns-clause-all : goal.returns-clause-all
returns-clause-all c = λ digits few.
    let text : List ℕ = c.args.text.now in
    let at : ℕ = c.loop-at.at in
    elim c.loop-at-test.branch [
      | then-loop-at-test+else-is_ascii_digit w ↦
          let digit : IsAsciiDigit (get_or text at 0) = digit_at_place text at digits (omega (arith, w.loop-at-test.true)) in
          absurd (⊎_elim (λ low. omega (arith, low, digit.0)) (λ high. omega (arith, high, digit.1)) w.if-is_ascii_digit.ensures.cases)
      | else-loop-at-test w ↦
          let none : length text - at ≡ 0 = omega (arith, w.loop-at-test.false) in
          ap (λ k. length (take k (drop at text))) none
    ]
