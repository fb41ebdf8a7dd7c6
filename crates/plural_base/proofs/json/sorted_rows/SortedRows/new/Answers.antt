use Rattle.plural_base.proofs.reading.Rows.{ascend_none}
use Rattle.plural_base.proofs.json.sorted_rows.SortedRows.new.Goals as goal

pub invariant_of-result : goal.invariant_of-result
invariant_of-result g c = rw c.new.ensures.items ascend_none
