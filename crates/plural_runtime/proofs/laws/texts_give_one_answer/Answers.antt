use Rattle.plural_runtime.proofs.texts.TextAnswers.{texts_give_one_answer}
use Rattle.plural_runtime.proofs.laws.texts_give_one_answer.Goals as goal

pub returns : goal.returns
returns c = texts_give_one_answer c.texts_are_read.ensures
