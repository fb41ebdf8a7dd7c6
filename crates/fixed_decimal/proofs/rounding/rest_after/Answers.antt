use Rattle.std.proofs.Common.{◌≡◌, arith}
use Rattle.fixed_decimal.proofs.RoundedDigits.{below_half, below_tenth, above_half}
use Rattle.fixed_decimal.proofs.rounding.rest_after.Goals as goal
use Rattle.fixed_decimal.proofs.rounding.rest_after.Goals.{else-first-eq5-via-then-first-eq5+else-kept-digits-2, else-first-eq5-via-else-first-eq5}

pub returns-then-gap-gt0 : goal.returns-then-gap-gt0
returns-then-gap-gt0 c = below_tenth c.args.digits.now c.args.kept c.args.gap c.requires.digits c.requires.last (omega arith) (omega arith)

pub returns-then-first-lt5 : goal.returns-then-first-lt5
returns-then-first-lt5 c =
    below_half c.args.digits.now c.args.kept c.args.gap c.requires.digits c.requires.last (omega arith) (omega arith) (omega arith)

pub returns-else-first-eq5 : goal.returns-else-first-eq5
returns-else-first-eq5 c =
    above_half c.args.digits.now c.args.kept c.args.gap c.requires.digits c.requires.last (omega arith) (omega arith) (omega arith)
    (λ e. elim c.else-first-eq5.branch [
      | else-first-eq5-via-then-first-eq5+else-kept-digits-2 w ↦ omega arith
      | else-first-eq5-via-else-first-eq5 w ↦ absurd (omega arith)
    ])
