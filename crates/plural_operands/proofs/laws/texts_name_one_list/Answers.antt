use Rattle.plural_operands.proofs.numbers.NamedOnce.{one_named}
use Rattle.plural_operands.proofs.laws.texts_name_one_list.Goals as goal

pub returns : goal.returns
returns c = one_named
