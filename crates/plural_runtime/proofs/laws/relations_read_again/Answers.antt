use Rattle.plural_runtime.proofs.bytes.RuleItems.{relations_in_one}
use Rattle.plural_runtime.proofs.laws.relations_read_again.Goals as goal

pub returns : goal.returns
returns c = relations_in_one c.read_again.ensures
