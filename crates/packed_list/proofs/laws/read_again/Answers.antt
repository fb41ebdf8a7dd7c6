use Rattle.packed_list.proofs.OneList.{items_in_one}
use Rattle.packed_list.proofs.laws.read_again.Goals as goal

pub returns : goal.returns
returns c = λ items bytes h. items_in_one items bytes h.spelled
