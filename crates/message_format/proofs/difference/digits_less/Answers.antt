use Rattle.std.proofs.Common.{◌-◌, arith}
use Rattle.message_format.specs.Inner.FormatColumns.{lined}
use Rattle.message_format.proofs.Columns.{lined_length, lined_digit, borrow_step}
use Rattle.message_format.proofs.difference.digits_less.Goals as goal

pub columns-preserved : goal.columns-preserved
columns-preserved c =
    let n = c.args.columns in
    let left = c.columns.left in
    record {
      less =
          borrow_step (lined n c.args.high) (lined n c.args.low) c.columns.digits.items c.push.new.self.items (left - 1) left
          c.digit_in-upper.result c.digit_in-lower.result
          c.columns.borrow c.borrowed-digit.result.0 c.borrowed-digit.result.1 n (lined_length n c.args.high c.requires.high)
          (lined_length n c.args.low c.requires.low)
          (omega (arith, c.columns.invariant.within, c.columns-test.true)) (omega (arith, c.columns-test.true))
          (lined_digit n c.args.high (left - 1) c.digit_in-upper.result c.digit_in-upper.ensures.digit)
          (lined_digit n c.args.low (left - 1) c.digit_in-lower.result c.digit_in-lower.ensures.digit)
          c.borrowed-digit.ensures.digit c.borrowed-digit.ensures.below c.borrowed-digit.ensures.borrow c.in_ok-push.ensures.items
          c.columns.invariant.less;
      within = omega (arith, c.columns.invariant.within);
    }
