use Rattle.rule_notes.proofs.OneList.{one_list}
use Rattle.rule_notes.proofs.laws.one_list_of_notes.Goals as goal

pub returns : goal.returns
returns c texts notes others = one_list c.texts_are_read.ensures texts notes others
