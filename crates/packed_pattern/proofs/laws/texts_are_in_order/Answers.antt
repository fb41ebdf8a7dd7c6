use Rattle.packed_pattern.proofs.TextsInOrder.{texts_in_order}
use Rattle.packed_pattern.proofs.laws.texts_are_in_order.Goals as goal

pub returns : goal.returns
returns c = texts_in_order c.patterns_print_back.ensures
