use Rattle.packed_list.proofs.OneList.{items_are_bytes}
use Rattle.packed_list.proofs.laws.item_bytes.Goals as goal

pub returns : goal.returns
returns c = items_are_bytes
