use Rattle.fixed_decimal.proofs.OneRounding.{one_rounding}
use Rattle.fixed_decimal.proofs.laws.numbers_have_one_rounding.Goals as goal

pub returns : goal.returns
returns c = one_rounding
