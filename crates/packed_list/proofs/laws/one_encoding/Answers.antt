use Rattle.packed_list.proofs.OneList.{one_list_for_bytes}
use Rattle.packed_list.proofs.laws.one_encoding.Goals as goal

pub returns : goal.returns
returns c = one_list_for_bytes
