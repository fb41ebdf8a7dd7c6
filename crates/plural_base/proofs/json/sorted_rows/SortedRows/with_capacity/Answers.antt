use Rattle.plural_base.proofs.reading.Rows.{ascend_none}
use Rattle.plural_base.proofs.json.sorted_rows.SortedRows.with_capacity.Goals as goal

pub invariant_of-result : goal.invariant_of-result
invariant_of-result g c = rw c.in_ok-with_capacity.ensures.items ascend_none
