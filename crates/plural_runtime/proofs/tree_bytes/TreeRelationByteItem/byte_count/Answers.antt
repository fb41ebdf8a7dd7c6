use Rattle.std.proofs.Common.{ap, arith, length}
use Rattle.plural_runtime.proofs.trees.TreeWalks.{length-relation_bytes}
use Rattle.plural_runtime.proofs.tree_bytes.TreeRelationByteItem.byte_count.Goals as goal

pub returns-clause-count : goal.returns-clause-count
returns-clause-count c =
    let ranges = ap length c.as_slice.ensures in
    let l = length-relation_bytes c.args.self.now.and_or c.args.self.now.relation.now in
    omega (arith, ranges, l)
