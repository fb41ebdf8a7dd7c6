use Rattle.fixed_decimal.proofs.Values.{read_alike}
use Rattle.fixed_decimal.proofs.laws.digits_are_read_alike.Goals as goal

pub returns : goal.returns
returns c = read_alike
