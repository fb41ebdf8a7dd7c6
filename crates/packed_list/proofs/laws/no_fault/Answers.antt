use Rattle.packed_list.proofs.Refused.{not_faulty}
use Rattle.packed_list.proofs.laws.no_fault.Goals as goal

pub returns : goal.returns
returns c = λ items bytes fault h faulty. not_faulty items bytes fault h.spelled faulty
