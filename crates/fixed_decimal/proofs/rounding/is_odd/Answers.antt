use Rattle.std.proofs.Common.{arith}
use Rattle.fixed_decimal.proofs.RoundedDigits.{odd_last}
use Rattle.fixed_decimal.proofs.rounding.is_odd.Goals as goal

pub returns-in-len1-up : goal.returns-in-len1-up
returns-in-len1-up c = odd_last c.args.digits.now (omega arith)
