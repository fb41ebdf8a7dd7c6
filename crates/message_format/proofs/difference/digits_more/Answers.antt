use Rattle.std.proofs.Common.{◌-◌, arith}
use Rattle.message_format.specs.Inner.FormatColumns.{lined}
use Rattle.message_format.proofs.Columns.{lined_length, lined_digit, carry_step}
use Rattle.message_format.proofs.difference.digits_more.Goals as goal

pub columns-preserved : goal.columns-preserved
columns-preserved c =
    let n = c.args.columns in
    let left = c.columns.left in
    record {
      sum =
          carry_step (lined n c.args.first) (lined n c.args.second) c.columns.digits.items c.push.new.self.items (left - 1) left
          c.digit_in-upper.result c.digit_in-lower.result
          c.columns.carry c.carried-digit.result.0 c.carried-digit.result.1 n (lined_length n c.args.first c.requires.first)
          (lined_length n c.args.second c.requires.second)
          (omega (arith, c.columns.invariant.within, c.columns-test.true)) (omega (arith, c.columns-test.true))
          (lined_digit n c.args.first (left - 1) c.digit_in-upper.result c.digit_in-upper.ensures.digit)
          (lined_digit n c.args.second (left - 1) c.digit_in-lower.result c.digit_in-lower.ensures.digit)
          c.carried-digit.ensures.digit c.carried-digit.ensures.below c.carried-digit.ensures.carry c.in_ok-push.ensures.items
          c.columns.invariant.sum;
      within = omega (arith, c.columns.invariant.within);
    }
