use Rattle.std.proofs.Common.{◌-◌, max, length, arith}
use Rattle.fixed_decimal.proofs.Making.{length-written}
use Rattle.fixed_decimal.proofs.Sides.{zero_digit, other_whole_digit, other_fraction_digit}
use Rattle.fixed_decimal.proofs.span.end_before_zeros.Goals as goal
use Rattle.fixed_decimal.proofs.span.end_before_zeros.Goals.{then-end-gt0, else-end-gt0}

pub returns-clause-zeros : goal.returns-clause-zeros
returns-clause-zeros c k least below =
    elim c.if-end-gt0.branch [
      | then-end-gt0 w ↦
          zero_digit c.args.whole.now c.args.fraction.now k
          (λ inside. absurd (omega arith))
          (λ behind. c.end_before_last_zeros-end.ensures.zeros (k - max (length c.args.whole.now) 1) (omega arith)
          (omega (arith, length-written c.args.whole.now c.args.fraction.now)))
      | else-end-gt0 w ↦
          zero_digit c.args.whole.now c.args.fraction.now k
          (λ inside. w.end_before_last_zeros-end-else-end-gt0.ensures.zeros k (omega arith) inside)
          (λ behind. c.end_before_last_zeros-end.ensures.zeros (k - max (length c.args.whole.now) 1) (omega arith)
          (omega (arith, length-written c.args.whole.now c.args.fraction.now)))
    ]

pub returns-clause-other : goal.returns-clause-other
returns-clause-other c some =
    elim c.if-end-gt0.branch [
      | then-end-gt0 w ↦
          other_fraction_digit c.args.whole.now c.args.fraction.now _
          (c.end_before_last_zeros-end.result - 1) c.requires.fraction (omega arith) (omega arith)
          (c.end_before_last_zeros-end.ensures.other (omega arith))
      | else-end-gt0 w ↦
          other_whole_digit c.args.whole.now c.args.fraction.now _
          (w.end_before_last_zeros-end-else-end-gt0.result - 1) c.requires.whole (omega arith) (omega arith)
          (w.end_before_last_zeros-end-else-end-gt0.ensures.other (omega arith))
    ]
