use Rattle.std.proofs.Common.{◌≡◌, ℕ, ◌-◌, ◌*◌, ◌^◌, ap, sym, ◌∙◌, inl, inr, arith}
use Rattle.plural_operands.proofs.numbers.Conversion.{one_zero_less}
use Rattle.number_lines.proofs.plain.trimmed.Goals as goal

pub loop-left-init : goal.loop-left-init
loop-left-init c =
    let none : c.args.shown - c.args.shown ≡ 0 = omega arith in
    let one : c.args.f * 10 ^ 0 ≡ c.args.f = omega arith in
    (omega arith, sym (ap (λ (j : ℕ). c.args.f * 10 ^ j) none ∙ one))

pub loop-left-preserved : goal.loop-left-preserved
loop-left-preserved c = (
  omega arith,
  one_zero_less c.loop-left.rest c.args.shown c.loop-left.left _ c.loop-left-test.true c.loop-left.invariant.0 c.loop-left.invariant.1
      c.if-rest-eq0.true,
)

pub returns-else-rest-eq0 : goal.returns-else-rest-eq0
returns-else-rest-eq0 c = record { within = c.loop-left.invariant.0; scaled = c.loop-left.invariant.1; last = inr c.if-rest-eq0.false }

pub returns-after-loop-left : goal.returns-after-loop-left
returns-after-loop-left c = record { within = c.loop-left.invariant.0; scaled = c.loop-left.invariant.1; last = inl (omega arith) }
