use Rattle.packed_pattern.proofs.BlockItems.{checked_block, checked_list, is_pattern}
use Rattle.packed_pattern.proofs.block.PackedPattern.from_checked.Goals as goal

pub from_checked-list-requires : goal.from_checked-list-requires
from_checked-list-requires c = checked_list c.read_again.ensures c.args.bytes.now c.requires

pub invariant_of-result : goal.invariant_of-result
invariant_of-result c = checked_block c.read_again.ensures c.from_checked-list.result c.args.bytes.now
    c.from_checked-list.ensures c.requires

pub returns : goal.returns
returns c = is_pattern c.from_checked-list.result c.args.bytes.now (invariant_of-result c) c.from_checked-list.ensures
