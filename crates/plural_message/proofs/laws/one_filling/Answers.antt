use Rattle.plural_message.proofs.OneWay.{one_filling}
use Rattle.plural_message.proofs.laws.one_filling.Goals as goal

pub returns : goal.returns
returns c = one_filling
