use Rattle.plural_base.proofs.reading.Answered.{answered_told, answered_ok, answered_err}
use Rattle.plural_base.proofs.rules.text.packed.Goals as goal

pub returns-clause-told : goal.returns-clause-told
returns-clause-told c = answered_told c.texts_give_one_answer.ensures c.args.text.now c.from_str.result c.from_str.ensures.gives

pub returns-clause-ok : goal.returns-clause-ok
returns-clause-ok c = answered_ok c.args.text.now c.from_str.result c.from_str.ensures.gives

pub returns-clause-refused : goal.returns-clause-refused
returns-clause-refused c = answered_err c.args.text.now c.from_str.result c.from_str.ensures.gives
