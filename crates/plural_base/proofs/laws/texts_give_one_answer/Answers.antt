use Rattle.plural_base.proofs.laws.texts_give_one_answer.Goals as goal

pub returns : goal.returns
returns c = c.texts_give_one_answer.ensures
